-- Events that a node's seat asked at most once.
use Rattle.std.proofs.Common.{◌≡◌, ◌⊎◌, List, Result, Ok, Err, OnOk, inl, inr}
use Rattle.nob_model_types.specs.declared.answer.Answer.{Answer}
use Rattle.nob_model_types.specs.declared.answer.Answer.TheVariants as answers
use Rattle.nob_model_types.specs.declared.event.Event.{Event}
use Rattle.nob_model_types.specs.declared.event.Event.TheVariants as events
use Rattle.nob_ids.specs.declared.wire_rep.WireRep.{WireRep}
use Rattle.nob_model_types.specs.declared.refusal.Refusal.{Refusal}
use Rattle.nob_node.specs.Receipt.{Receipt}
use Rattle.nob_node.specs.declared.error.NodeError.{NodeError}
use Rattle.nob_node.specs.declared.error.NodeError.TheVariants as errors
use Rattle.nob_node.specs.Calls.{Answered, IsRefusal, IsAskedAtMost, IsBound}

-- an event that was answered was asked
pub answered_once : (old new : List Receipt) (event : Event) (result : Result Answer Refusal) → Answered old new event result → IsAskedAtMost old new event
answered_once old new event result answered = inr (answered.0, answered.1, answered.2)

-- one that was refused was, or wasn't
pub refused_once : (old new : List Receipt) (event : Event) (error : NodeError) → IsRefusal old new event error → IsAskedAtMost old new event
refused_once old new event (errors.Refused refusal) refused = answered_once old new event (Err refusal) refused
refused_once old new event (errors.Keeper error) same = inl same

-- a hold more was taken for a name, and then, unless that is refused, the one that the name had is given back
pub bound_then : {T E : Type 0} (result : Result T E) (old between new : List Receipt) (rep before : WireRep) → Answered old between (events.Dup rep) (Ok answers.Done) → OnOk result (Answered between new (events.Release before) (Ok answers.Done)) → OnOk result (IsBound old new rep)
bound_then (Ok done) old between new rep before taken given = (between, taken, inr (before, given))
bound_then (Err error) old between new rep before taken given = given
