-- What the newest receipt says of what was collected.
use Rattle.std.specs.Prelude.{ℕ, Bool, false, Option, Some, None, Result, Ok, is_err}
use Rattle.nob_model_types.specs.declared.event.Event.{Event}
use Rattle.nob_model_types.specs.declared.event.Event.TheVariants as events
use Rattle.nob_model_types.specs.declared.answer.Answer.{Answer}
use Rattle.nob_model_types.specs.declared.answer.Answer.TheVariants as answers
use Rattle.nob_model_types.specs.declared.refusal.Refusal.{Refusal}
use Rattle.nob_agents.specs.Receipt.{Receipt}

-- whether there is a receipt, and it is of a refusal
abbrev pub is_refused : Option Receipt → Bool
is_refused None = false
is_refused (Some receipt) = is_err receipt.result

-- the index of the object that an answered event withdrew, if it did
abbrev pub withdrawn_in : Event → Result Answer Refusal → Option ℕ
withdrawn_in (events.Withdraw index) (Ok answers.Withdrawn) = Some index
withdrawn_in (_) (_) = None

-- the index of the object that was withdrawn by the event of a receipt, if there is one and it was
abbrev pub withdrawn_by : Option Receipt → Option ℕ
withdrawn_by None = None
withdrawn_by (Some receipt) = withdrawn_in receipt.event receipt.result
