-- A step of a method that runs at an object. In lists of receipts the newest stands FIRST.
use Rattle.std.specs.Prelude.{◌≡◌, ℕ, Bool, true, false, List, [], ◌∷◌, Option, Some, None, Result, Ok, Err, if◌then◌else◌}
use Rattle.nob_pickle.specs.declared.value.Value.{Value}
use Rattle.nob_pickle.specs.declared.value.Value.TheVariants as values
use Rattle.nob_model_types.specs.declared.answer.Answer.{Answer}
use Rattle.nob_model_types.specs.declared.event.Event.{Event}
use Rattle.nob_model_types.specs.declared.event.Event.TheVariants as events
use Rattle.nob_model_types.specs.declared.event.Outcome.TheVariants as endings
use Rattle.nob_model_types.specs.declared.refusal.Refusal.{Refusal}
use Rattle.nob_model_types.specs.declared.refusal.Refusal.TheVariants as refusals
use Rattle.nob_keeper.specs.Receipt.{Receipt}
use Rattle.nob_keeper.specs.Seats.{Adds}
use Rattle.nob_dispatch_objects.specs.declared.object.Done.{Done}
use Rattle.nob_dispatch_objects.specs.declared.object.Outcome.{Outcome}
use Rattle.nob_dispatch_objects.specs.declared.object.Outcome.TheVariants as outcomes
use Rattle.nob_dispatch.specs.declared.errand.Errand.{Errand}
use Rattle.nob_dispatch.specs.declared.stage.Stage.{Stage}
use Rattle.nob_dispatch.specs.declared.stage.Stage.TheVariants as stages
use Rattle.nob_dispatch.specs.Telling.{told, stage_after, is_not_ready}

-- this event is asked next
abbrev pub Asks : Event → Stage → Type 0
Asks event (stages.Ask request) = request.event ≡ event
Asks event _ = ⊥

-- what is next for a method that came to this: it ends so, or what it asks for is asked
abbrev pub Comes : Outcome → Stage → Type 0
Comes (outcomes.Answer value) stage = stage ≡ stages.End (endings.Answer value)
Comes (outcomes.Fault value) stage = stage ≡ stages.End (endings.Fault value)
Comes outcomes.NoMethod stage = stage ≡ stages.End endings.NoMethod
Comes (outcomes.Call target method value) stage = Asks (events.Call target method value) stage
Comes (outcomes.Dup rep) stage = Asks (events.Dup rep) stage
Comes (outcomes.Release rep) stage = Asks (events.Release rep) stage

-- whether a method has ended
abbrev pub is_end : Stage → Bool
is_end (stages.End ending) = true
is_end _ = false

-- the event that ends a job whose method has ended, as it ended
abbrev pub closing_at : (job : ℕ) → Stage → Option Event
closing_at job (stages.End ending) = Some (events.Finish job ending)
closing_at job _ = None

-- what ends a job next, by the result of the event that was to end it: nothing, a fault with unit where its value can't be sent, or the same again
abbrev pub closing_by : (job : ℕ) → Event → Result Answer Refusal → Option Event
closing_by job event (Ok answer) = None
closing_by job event (Err refusals.Closed) = Some (events.Finish job (endings.Fault values.Unit))
closing_by job event (Err refusals.NoObject) = Some (events.Finish job (endings.Fault values.Unit))
closing_by job event (Err refusals.NotHeld) = Some (events.Finish job (endings.Fault values.Unit))
closing_by job event (Err refusals.TooBig) = Some (events.Finish job (endings.Fault values.Unit))
closing_by job event (Err _) = Some event

-- the same by the newest receipt
abbrev pub closing_after : (job : ℕ) → Event → List Receipt → Option Event
closing_after job event [] = Some event
closing_after job event (receipt ∷ earlier) = closing_by job event receipt.result

-- the event that is to end a job is asked once, and what ends the job next is by its receipt
abbrev pub Closes : Option ℕ → Option Event → (before after : List Receipt) → (next : Option Event) → Type 0
Closes (Some job) (Some event) before after next = Adds before after event 0 × (next ≡ closing_after job event after)
Closes (Some job) None before after next = ⊥
Closes None closing before after next = ⊥

-- an object that a worker has: the errand that it has it with, and what is next for the method
pub record Course (O : Type 0) : Type 0 where
  pub errand : Errand O
  pub stage : Stage

module _ {O : Type 0} where
  -- the object that a worker has, if it has one
  abbrev pub object_in : Option (Course O) → Option O
  object_in None = None
  object_in (Some course) = Some course.errand.object

  -- whether a method has ended whose object the worker still has
  abbrev pub has_returned : Option (Course O) → Bool
  has_returned None = false
  has_returned (Some course) = is_end course.stage

  -- the event that ends the job of an object that comes back
  abbrev pub closing_of : Option (Course O) → Option Event
  closing_of None = None
  closing_of (Some course) = closing_at course.errand.job.job course.stage

  -- the method of the job was begun once at its object, with the job's argument, and what is next is what it came to
  abbrev pub IsBegun : (begins : O → ℕ → Value → Outcome → O → Type 0) → Errand O → Stage → Errand O → Type 0
  IsBegun begins old next new = (new.job ≡ old.job) × ((outcome : Outcome) × begins old.object old.job.method old.job.value outcome new.object × Comes outcome next)

  -- the method was told once what the newest receipt says, and what is next is what it came to
  abbrev pub IsTold : (resumes : O → Done → Outcome → O → Type 0) → List Receipt → Errand O → Stage → Errand O → Type 0
  IsTold resumes receipts old next new = (new.job ≡ old.job) × ((outcome : Outcome) × resumes old.object (told receipts) outcome new.object × Comes outcome next)

  -- a method goes on by one step: it is begun, or what it asked for is asked, or the reply to its call, or it is told what came of that; one that has ended has no step more
  abbrev pub Goes : (begins : O → ℕ → Value → Outcome → O → Type 0) → (resumes : O → Done → Outcome → O → Type 0) → (before after : List Receipt) → Stage → Errand O → Stage → Errand O → Type 0
  Goes begins resumes before after stages.Begin old next new = (after ≡ before) × IsBegun begins old next new
  Goes begins resumes before after (stages.Ask request) old next new = Adds before after request.event 0 × (new ≡ old) × (next ≡ stage_after after)
  Goes begins resumes before after (stages.Await call) old next new = Adds before after (events.TakeReply call) 0 × (new ≡ old) × (next ≡ (if is_not_ready after then stages.Await call else stages.Tell))
  Goes begins resumes before after stages.Tell old next new = (after ≡ before) × IsTold resumes before old next new
  Goes begins resumes before after (stages.End ending) old next new = ⊥

  -- the same of the object that a worker has, if it has one
  abbrev pub GoesAt : (begins : O → ℕ → Value → Outcome → O → Type 0) → (resumes : O → Done → Outcome → O → Type 0) → (before after : List Receipt) → (old new : Option (Course O)) → Type 0
  GoesAt begins resumes before after None new = new ≡ None
  GoesAt begins resumes before after (Some old) None = ⊥
  GoesAt begins resumes before after (Some old) (Some new) = Goes begins resumes before after old.stage old.errand new.stage new.errand
