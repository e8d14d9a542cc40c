-- What one event makes of a space, in the event's own type or as an answer.
use Rattle.std.specs.Prelude.{List, Result, Ok, Err}
use Rattle.nob_model_types.specs.declared.answer.Answer.{Answer}
use Rattle.nob_model_types.specs.declared.entry.Entry.{Entry}
use Rattle.nob_model_types.specs.declared.event.Event.{Event}
use Rattle.nob_model_types.specs.declared.refusal.Refusal.{Refusal}
use Rattle.nob_model_history.specs.Histories.{history}
use Rattle.nob_model.specs.Right.{right}
use Rattle.nob_space_state.specs.declared.error.SpaceError.{SpaceError}
use Rattle.nob_space_state.specs.declared.error.SpaceError.TheVariants as errors
use Rattle.nob_space.specs.Spaces.{Owner, StandsFor, with_entry}
use Rattle.nob_space.specs.Steps.{AnswersRight, front_for}

-- what an event gave, as an answer
abbrev pub answered : {A : Type 0} → (A → Answer) → Result A SpaceError → Result Answer SpaceError
answered answer (Ok given) = Ok (answer given)
answered answer (Err error) = Err error

-- what an event that wants no memory gave, as an answer
abbrev pub answered_or_refused : {A : Type 0} → (A → Answer) → Result A Refusal → Result Answer SpaceError
answered_or_refused answer (Ok given) = Ok (answer given)
answered_or_refused answer (Err refusal) = Err (errors.Refused refusal)

-- a result of an event is the right one after every list that the space stands for
abbrev pub StepAnswers : Owner → Event → Result Answer SpaceError → Type 0
StepAnswers space event result = (L : List Entry) → StandsFor space L → AnswersRight (front_for event (history space.id space.n L)) result (right space.id space.n space.limits L event)

-- new stands for every list that old stands for, with the entry of the event, if it makes one
abbrev pub StepStands : (old new : Owner) → Event → Result Answer SpaceError → Type 0
StepStands old new event result = (L : List Entry) → StandsFor old L → StandsFor new (with_entry old.id event result L)
