-- The second of two equal answers: what it owns is copied before the event.
use Rattle.std.specs.Prelude.{◌≡◌, ⊤, ℕ, Bool, true, List, Result, Ok, Err, is_some}
use Rattle.nob_ids.specs.declared.limits.Limits.{Limits}
use Rattle.nob_model_types.specs.declared.answer.Answer.{Answer}
use Rattle.nob_model_types.specs.declared.answer.Answer.TheVariants as answers
use Rattle.nob_model_types.specs.declared.event.Event.{Event}
use Rattle.nob_model_types.specs.declared.event.Event.TheVariants as events
use Rattle.nob_model_types.specs.Deeds.{deed_of}
use Rattle.nob_model_types.specs.declared.deed.Deed.{Deed}
use Rattle.nob_model_history.specs.Histories.{history_of}
use Rattle.nob_model.specs.Right.{right_after}
use Rattle.nob_space.specs.Spaces.{wants_memory}
use Rattle.nob_space.specs.declared.twice.Spare.{Spare}
use Rattle.nob_space.specs.declared.twice.Spare.TheVariants as spares
use Rattle.nob_space_state.specs.declared.error.SpaceError.{SpaceError}
use Rattle.nob_space_state.specs.Parts.{State}
use Rattle.nob_space_state.specs.Stands.{Stands}

-- what was copied is what an answer owns
abbrev pub Fits : Spare → Answer → Type 0
Fits spare (answers.Replied status value) = spare ≡ spares.Value value
Fits spare (answers.Job job) = spare ≡ spares.Job job
Fits spare (answers.Frames frames) = spare ≡ spares.Frames frames
Fits spare (_) = ⊤

-- an answer is one of the event's own, and the right one after some list that the state stands for
pub record IsComing (s n : ℕ) (st : State) (event : Event) (answer : Answer) : Type 0 where
  pub own : is_some (deed_of event answer) ≡ true
  pub limits : Limits
  pub D : List Deed
  pub stands : Stands s n limits st D
  pub is_right : right_after s n limits (history_of s n D) event ≡ Ok answer

-- whether an event may want memory, or the copy of what it answers may
abbrev pub wants_memory_twice : Event → Bool
wants_memory_twice (events.TakeReply call) = true
wants_memory_twice event = wants_memory event

-- the first of two answers, or why there is none
abbrev pub first_of : Result (Answer × Answer) SpaceError → Result Answer SpaceError
first_of (Ok two) = Ok two.0
first_of (Err error) = Err error

-- the first of three answers, or why there is none
abbrev pub first_of_three : Result (Answer × Answer × Answer) SpaceError → Result Answer SpaceError
first_of_three (Ok three) = Ok three.0
first_of_three (Err error) = Err error
