-- What a worker has done, and what it keeps. In lists of receipts and of jobs the newest stands FIRST.
use Rattle.std.specs.Prelude.{◌≡◌, ◌⊎◌, ℕ, Bool, true, false, List, Option, Some, None, Result, Ok}
use Rattle.nob_pickle.specs.declared.value.Value.{Value}
use Rattle.nob_model_types.specs.declared.answer.Job.{Job}
use Rattle.nob_model_types.specs.declared.event.Event.{Event}
use Rattle.nob_keeper.specs.Receipt.{Receipt}
use Rattle.nob_keeper.specs.KeeperError.{KeeperError}
use Rattle.nob_dispatch_objects.specs.declared.object.Done.{Done}
use Rattle.nob_dispatch_objects.specs.declared.object.Outcome.{Outcome}
use Rattle.nob_dispatch.specs.declared.errand.Errand.{Errand}
use Rattle.nob_dispatch.specs.declared.errand.Return.{Return}
use Rattle.nob_dispatch.specs.declared.stage.Keeping.{Keeping}
use Rattle.nob_dispatch.specs.declared.stage.Keeping.TheVariants as keeps
use Rattle.nob_dispatch.specs.declared.stage.Stage.TheVariants as stages
use Rattle.nob_dispatch.specs.declared.worker.Progress.{Progress}
use Rattle.nob_dispatch.specs.declared.worker.Progress.TheVariants as progresses
use Rattle.nob_dispatch.specs.Ends.{ended, number_in, target_in, with_job}
use Rattle.nob_dispatch.specs.Steps.{Course, GoesAt, Closes, object_in, closing_of}

-- a worker, as contracts see it: its receipts, the number of the job that it keeps, that job while it has its object, with the object and what is next
-- for the method, and then the event that is to end the job
pub record Working (O : Type 0) : Type 0 where
  pub receipts : List Receipt
  pub job : Option ℕ
  pub running : Option Job
  pub course : Option (Course O)
  pub closing : Option Event

module _ {O : Type 0} where
  -- the jobs that a worker got: those that its receipts ended, and the one that it keeps
  abbrev pub got : Working O → List ℕ
  got worker = with_job worker.job (ended worker.receipts)

  -- the job whose object a worker has, if it has one
  abbrev pub held : Working O → Option ℕ
  held worker = if_some worker.running worker.job
    where
      if_some : Option Job → Option ℕ → Option ℕ
      if_some None job = None
      if_some (Some running) job = job

  -- the number of the job that is kept
  abbrev pub job_in : Keeping O → Option ℕ
  job_in keeps.Nothing = None
  job_in (keeps.Running errand stage) = Some errand.job.job
  job_in (keeps.Ending finish) = Some finish.job

  -- the job whose object is kept
  abbrev pub running_in : Keeping O → Option Job
  running_in keeps.Nothing = None
  running_in (keeps.Running errand stage) = Some errand.job
  running_in (keeps.Ending finish) = None

  -- the object that is kept, and what is next for its method
  abbrev pub course_in : Keeping O → Option (Course O)
  course_in keeps.Nothing = None
  course_in (keeps.Running errand stage) = Some (record { errand = errand; stage = stage })
  course_in (keeps.Ending finish) = None

  -- the event that is to end the job
  abbrev pub closing_in : Keeping O → Option Event
  closing_in keeps.Nothing = None
  closing_in (keeps.Running errand stage) = None
  closing_in (keeps.Ending finish) = Some finish.event

  -- a worker that keeps an errand more, whose method is to begin
  abbrev pub with_errand : Errand O → Working O → Working O
  with_errand errand worker = record { receipts = worker.receipts; job = Some errand.job.job; running = Some errand.job; course = Some (record { errand = errand; stage = stages.Begin }); closing = None }

  -- an object comes back with the number of the job that the worker has it for, and with its index; and it is the one that the worker has
  abbrev pub ComesFrom : Return O → Working O → Type 0
  ComesFrom back worker = (worker.job ≡ Some back.job) × (number_in worker.running ≡ Some back.job) × (target_in worker.running ≡ Some back.index) × (object_in worker.course ≡ Some back.object)

  -- a turn gives back the object that the worker had, with its job's number and index, or the worker still has what it had, of that job
  abbrev pub GivesBack : Result (Progress O) KeeperError → Working O → Working O → Type 0
  GivesBack (Ok (progresses.Back back)) old new = ComesFrom back old × (new.running ≡ None)
  GivesBack _ old new = (new.running ≡ old.running) × (held new ≡ held old)

  -- a worker whose job has ended keeps none, and so does one that has nothing to do
  abbrev pub IsFreeAfter : Result (Progress O) KeeperError → Working O → Type 0
  IsFreeAfter (Ok (progresses.Ended job)) worker = worker.job ≡ None
  IsFreeAfter (Ok progresses.Idle) worker = worker.job ≡ None
  IsFreeAfter _ worker = Unit {0}

  -- a turn that says of a job that it has ended says so of the one that the worker kept
  abbrev pub EndsItsJob : Result (Progress O) KeeperError → Working O → Type 0
  EndsItsJob (Ok (progresses.Ended job)) old = old.job ≡ Some job
  EndsItsJob _ old = Unit {0}

  -- a worker whose object has come back
  abbrev pub without_object : Working O → Working O
  without_object worker = record { receipts = worker.receipts; job = worker.job; running = None; course = None; closing = closing_of worker.course }

  -- a worker goes on by one step: of the method at the object that it has, or else of the end of the job
  abbrev pub GoesOn : (begins : O → ℕ → Value → Outcome → O → Type 0) → (resumes : O → Done → Outcome → O → Type 0) → (old new : Working O) → Type 0
  GoesOn begins resumes old new = by old.course
    where
      by : Option (Course O) → Type 0
      by None = (new.course ≡ None) × Closes old.job old.closing old.receipts new.receipts new.closing
      by (Some course) = GoesAt begins resumes old.receipts new.receipts (Some course) new.course

  -- what a turn runs at the object that the worker has: a step of its method, and nothing where there is nothing to do, or the object has come back; and
  -- what ends the job then is what the method came to
  abbrev pub Runs : (begins : O → ℕ → Value → Outcome → O → Type 0) → (resumes : O → Done → Outcome → O → Type 0) → Progress O → (old new : Working O) → Type 0
  Runs begins resumes (progresses.Back back) old new = new ≡ without_object old
  Runs begins resumes (progresses.Ended job) old new = (old.course ≡ None) × GoesOn begins resumes old new
  Runs begins resumes progresses.Idle old new = new ≡ old
  Runs begins resumes progresses.Did old new = GoesOn begins resumes old new
  Runs begins resumes progresses.Later old new = GoesOn begins resumes old new

  -- whether a worker keeps no job
  abbrev pub is_free : Working O → Bool
  is_free worker = is_none worker.job
    where
      is_none : Option ℕ → Bool
      is_none None = true
      is_none (Some job) = false

  -- a worker that keeps no job any more
  abbrev pub freed : Working O → Working O
  freed worker = record { receipts = worker.receipts; job = None; running = None; course = None; closing = None }
