-- What a method that runs is told, and what is next for it, by the newest receipt. In lists of receipts the newest stands FIRST.
use Rattle.std.specs.Prelude.{Bool, true, false, List, [], ◌∷◌, Result, Ok, Err}
use Rattle.nob_model_types.specs.declared.answer.Answer.{Answer}
use Rattle.nob_model_types.specs.declared.answer.Answer.TheVariants as answers
use Rattle.nob_model_types.specs.declared.refusal.Refusal.{Refusal}
use Rattle.nob_model_types.specs.declared.refusal.Refusal.TheVariants as refusals
use Rattle.nob_keeper.specs.Receipt.{Receipt}
use Rattle.nob_dispatch_objects.specs.declared.object.Done.{Done}
use Rattle.nob_dispatch_objects.specs.declared.object.Done.TheVariants as dones
use Rattle.nob_dispatch.specs.declared.stage.Stage.{Stage}
use Rattle.nob_dispatch.specs.declared.stage.Stage.TheVariants as stages

-- what came of that which a method asked for, by its result
abbrev pub done_by : Result Answer Refusal → Done
done_by (Ok (answers.Replied status value)) = dones.Replied status value
done_by (Ok answers.Ended) = dones.Ended
done_by (Ok _) = dones.Made
done_by (Err refusal) = dones.Refused refusal

-- what a method is told: what the newest receipt says
abbrev pub told : List Receipt → Done
told [] = dones.Made
told (receipt ∷ earlier) = done_by receipt.result

-- what is next after a request with this result: the reply to a call is awaited, and of all else the method is told
abbrev pub stage_by : Result Answer Refusal → Stage
stage_by (Ok (answers.Called call)) = stages.Await call
stage_by _ = stages.Tell

-- what is next after the request of the newest receipt
abbrev pub stage_after : List Receipt → Stage
stage_after [] = stages.Tell
stage_after (receipt ∷ earlier) = stage_by receipt.result

-- whether a result says that a reply isn't ready
abbrev pub says_not_ready : Result Answer Refusal → Bool
says_not_ready (Err refusals.NotReady) = true
says_not_ready _ = false

-- whether the newest receipt says that a reply isn't ready
abbrev pub is_not_ready : List Receipt → Bool
is_not_ready [] = false
is_not_ready (receipt ∷ earlier) = says_not_ready receipt.result
