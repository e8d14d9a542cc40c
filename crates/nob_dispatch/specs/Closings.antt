-- What is next after the event that was to end a job, as a worker judges it. In lists of receipts the newest stands FIRST.
use Rattle.std.specs.Prelude.{◌≡◌, ℕ, List, Option, Some, None}
use Rattle.nob_pickle.specs.declared.value.Value.TheVariants as values
use Rattle.nob_model_types.specs.declared.event.Event.{Event}
use Rattle.nob_model_types.specs.declared.event.Event.TheVariants as events
use Rattle.nob_model_types.specs.declared.event.Outcome.TheVariants as endings
use Rattle.nob_keeper.specs.Receipt.{Receipt}
use Rattle.nob_dispatch.specs.declared.stage.AfterFinish.{AfterFinish}
use Rattle.nob_dispatch.specs.declared.stage.AfterFinish.TheVariants as afters
use Rattle.nob_dispatch.specs.Steps.{closing_after}

-- what ends a job next
abbrev pub closing_for : AfterFinish → (job : ℕ) → Event → Option Event
closing_for afters.Ended job event = None
closing_for afters.Fault job event = Some (events.Finish job (endings.Fault values.Unit))
closing_for afters.Later job event = Some event

-- it is what the newest receipt says
abbrev pub IsAfter : AfterFinish → List Receipt → Type 0
IsAfter after receipts = (job : ℕ) (event : Event) → closing_for after job event ≡ closing_after job event receipts
