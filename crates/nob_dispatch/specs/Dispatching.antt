-- What a dispatcher has done, and what it keeps. In lists of receipts, and of jobs that were handed on, the newest stands FIRST.
use Rattle.std.specs.Prelude.{◌≡◌, ◌≤◌, ◌⊎◌, ℕ, ◌+◌, Bool, true, false, ◌||◌, List, [], ◌∷◌, ◌++◌, Option, Some, None, is_some, Result, Ok, Err, if◌then◌else◌}
use Rattle.nob_model_types.specs.declared.answer.Job.{Job}
use Rattle.nob_model_types.specs.declared.event.Event.TheVariants as events
use Rattle.nob_model_types.specs.declared.event.Outcome.TheVariants as endings
use Rattle.nob_keeper.specs.Receipt.{Receipt}
use Rattle.nob_keeper.specs.KeeperError.{KeeperError}
use Rattle.nob_keeper.specs.Seats.{Adds}
use Rattle.nob_dispatch_lanes.specs.Balance.{times, weigh}
use Rattle.nob_dispatch.specs.declared.dispatcher.Handing.{Handing}
use Rattle.nob_dispatch.specs.declared.dispatcher.Handing.TheVariants as handings
use Rattle.nob_dispatch.specs.declared.dispatcher.Remaining.{Remaining}
use Rattle.nob_dispatch.specs.declared.errand.Errand.{Errand}
use Rattle.nob_dispatch.specs.declared.shelf.Place.{Place}
use Rattle.nob_dispatch.specs.declared.shelf.Place.TheVariants.{Here, Away}
use Rattle.nob_dispatch.specs.Ends.{ended, claimed, job_of, numbers, with_job, was_accepted}
use Rattle.nob_dispatch.specs.Shelves.{place_of, with_place, is_away}

-- a dispatcher, as contracts see it
pub record Dispatching (O : Type 0) : Type 0 where
  -- its receipts
  pub receipts : List Receipt
  -- the objects
  pub shelf : List (ℕ × Place O)
  -- whether the job of the newest receipt is to be handed on
  pub is_due : Bool
  -- the jobs whose objects are away, the first claimed first
  pub waiting : List Job
  -- the number of the job that is to be ended, since its object isn't there
  pub ending : Option ℕ

-- the job that the newest receipt gives
abbrev pub newest_job : List Receipt → Option Job
newest_job [] = None
newest_job (receipt ∷ earlier) = job_of receipt.result

-- the job that is to be handed on, if there is one
abbrev pub due_in : (is_due : Bool) → List Receipt → Option Job
due_in true receipts = newest_job receipts
due_in false receipts = None

-- jobs without one of them, the others in their order
abbrev pub IsWithout : Job → (all left : List Job) → Type 0
IsWithout job all left = (before after : List Job) × (all ≡ before ++ job ∷ after) × (left ≡ before ++ after)

module _ {O : Type 0} where
  -- the jobs that a dispatcher keeps, to hand them on
  abbrev pub kept : Dispatching O → List Job
  kept d = with_job (due_in d.is_due d.receipts) d.waiting

  -- each job that was claimed was handed on, is kept, or was or is to be ended by the dispatcher, as often as it was claimed; and those that were handed on
  -- and those that are kept are claimed ones, with all that the receipts of the Claims say of them: however jobs are weighed, they weigh no more
  abbrev pub IsTied : (handed : List Job) → Dispatching O → Type 0
  IsTied handed d =
      ((number : ℕ) → times number (numbers (claimed d.receipts)) ≡ times number (numbers handed) + times number (numbers (kept d)) + times number (with_job d.ending (ended d.receipts)))
      × ((weight : Job → ℕ) → weigh weight handed + weigh weight (kept d) ≤ weigh weight (claimed d.receipts))

  -- a dispatcher keeps no job: none is to be handed on, none waits for its object, and none is to be ended
  abbrev pub IsAtRest : Dispatching O → Type 0
  IsAtRest d = (d.is_due ≡ false) × (d.waiting ≡ []) × (d.ending ≡ None)

  -- the jobs that were handed on, and the one that a turn hands on
  abbrev pub with_handed : Result (Handing O) KeeperError → List Job → List Job
  with_handed (Ok (handings.Errand errand)) handed = errand.job ∷ handed
  with_handed _ handed = handed

  -- a turn hands the object of the job's index on, which is away from then on, or all objects stay where they are
  abbrev pub HandsOver : Result (Handing O) KeeperError → (old new : List (ℕ × Place O)) → Type 0
  HandsOver (Ok (handings.Errand errand)) old new = (place_of errand.job.target old ≡ Some (Here errand.object)) × (new ≡ with_place errand.job.target Away old)
  HandsOver _ old new = new ≡ old

  -- a job is handed on with its object, which is away from then on
  abbrev pub IsHanded : Errand O → (job : Job) → (old new : List (ℕ × Place O)) → Type 0
  IsHanded errand job old new = (errand.job ≡ job) × (place_of errand.job.target old ≡ Some (Here errand.object)) × (new ≡ with_place errand.job.target Away old)

  -- a dispatcher with other objects
  abbrev pub with_shelf : List (ℕ × Place O) → Dispatching O → Dispatching O
  with_shelf shelf d = record { receipts = d.receipts; shelf = shelf; is_due = d.is_due; waiting = d.waiting; ending = d.ending }

  -- all but the objects is as it was
  abbrev pub IsSameBesideShelf : (old new : Dispatching O) → Type 0
  IsSameBesideShelf old new = (new.receipts ≡ old.receipts) × (new.is_due ≡ old.is_due) × (new.waiting ≡ old.waiting) × (new.ending ≡ old.ending)

  -- a dispatcher of which no job is to be handed on, and these wait
  abbrev pub with_waiting : List Job → Dispatching O → Dispatching O
  with_waiting jobs d = record { receipts = d.receipts; shelf = d.shelf; is_due = false; waiting = jobs; ending = d.ending }

  -- a dispatcher with another job to be ended, or none
  abbrev pub with_ending : Option ℕ → Dispatching O → Dispatching O
  with_ending ending d = record { receipts = d.receipts; shelf = d.shelf; is_due = d.is_due; waiting = d.waiting; ending = ending }

  -- a dispatcher that asked something: its receipts then, whether a job is to be handed on, and the one to be ended, if there is one
  abbrev pub after_asking : List Receipt → (is_due : Bool) → (ending : Option ℕ) → Dispatching O → Dispatching O
  after_asking receipts is_due ending d = record { receipts = receipts; shelf = d.shelf; is_due = is_due; waiting = d.waiting; ending = ending }

  -- a job is taken from those that are kept, and these wait then: it was to be handed on, or it waited while none was
  abbrev pub IsTaken : Job → Dispatching O → (left : List Job) → Type 0
  IsTaken job d left = ((due_in d.is_due d.receipts ≡ Some job) × (left ≡ d.waiting)) ⊎ ((d.is_due ≡ false) × IsWithout job d.waiting left)

  -- a kept job is handed on with the object of its index, which was here and is away from then on; all else stays
  abbrev pub HandsOn : Errand O → (old new : Dispatching O) → Type 0
  HandsOn errand old new = (left : List Job) × IsTaken errand.job old left
      × (place_of errand.job.target old.shelf ≡ Some (Here errand.object)) × (new ≡ with_shelf (with_place errand.job.target Away old.shelf) (with_waiting left old))

  -- a kept job is to be ended, since its index has no place, where none was to be ended; all else stays
  abbrev pub ComesToEnd : (old new : Dispatching O) → Type 0
  ComesToEnd old new = (job : Job) × (left : List Job) × IsTaken job old left
      × (place_of job.target old.shelf ≡ None) × (old.ending ≡ None) × (new ≡ with_ending (Some job.job) (with_waiting left old))

  -- whether the job that calls an index has to wait: another is to be ended, or the object is away
  abbrev pub must_wait : (index : ℕ) → List (ℕ × Place O) → (ending : Option ℕ) → Bool
  must_wait index shelf ending = is_some ending || is_away (place_of index shelf)

  -- the job that was to be handed on has to wait, and does so behind the others; all else stays
  abbrev pub ComesToWait : (old new : Dispatching O) → Type 0
  ComesToWait old new = (job : Job) × (due_in old.is_due old.receipts ≡ Some job)
      × (must_wait job.target old.shelf old.ending ≡ true) × (new ≡ with_waiting (old.waiting ++ job ∷ []) old)

  -- the newest receipt gives no job, so none is to be handed on; all else stays
  abbrev pub FindsNone : (old new : Dispatching O) → Type 0
  FindsNone old new = (due_in old.is_due old.receipts ≡ None) × (new ≡ with_waiting old.waiting old)

  -- the Finish 'no such method' of the job that is to be ended is asked, while none is to be handed on, and once it is accepted none is to be ended; all else stays
  abbrev pub AsksFinish : (accepted : Bool) → (old new : Dispatching O) → Type 0
  AsksFinish accepted old new = (job : ℕ) × (old.is_due ≡ false) × (old.ending ≡ Some job)
      × Adds old.receipts new.receipts (events.Finish job endings.NoMethod) 0 × (was_accepted new.receipts ≡ accepted)
      × (new ≡ after_asking new.receipts false (if accepted then None else Some job) old)

  -- a Claim is asked, while no job is to be handed on and none to be ended, and the job that it gives, if it gives one, is to be handed on; all else stays
  abbrev pub AsksClaim : (gives : Bool) → (old new : Dispatching O) → Type 0
  AsksClaim gives old new = (old.is_due ≡ false) × (old.ending ≡ None)
      × Adds old.receipts new.receipts events.Claim 0 × (is_some (newest_job new.receipts) ≡ gives)
      × (new ≡ after_asking new.receipts gives None old)

  -- what a turn that answers this does: it hands a job on, has one wait or be ended, asks the Finish, asks a Claim if it may, or does nothing; and an error changes nothing
  abbrev pub GoesOn : (claims : Bool) → Result (Handing O) KeeperError → (old new : Dispatching O) → Type 0
  GoesOn claims (Ok (handings.Errand errand)) old new = HandsOn errand old new
  GoesOn claims (Ok handings.Did) old new = ComesToWait old new ⊎ (ComesToEnd old new ⊎ (FindsNone old new ⊎ (AsksFinish true old new ⊎ ((claims ≡ true) × AsksClaim true old new))))
  GoesOn claims (Ok handings.Later) old new = AsksFinish false old new
  GoesOn claims (Ok handings.Idle) old new = (new ≡ old) ⊎ ((claims ≡ true) × AsksClaim false old new)
  GoesOn claims (Err error) old new = new ≡ old

  -- this is all that a dispatcher had
  abbrev pub IsLeft : Remaining O → Dispatching O → Type 0
  IsLeft left d = (left.seat ≡ d.receipts) × (left.shelf ≡ d.shelf) × (left.is_due ≡ d.is_due) × (left.waiting.items ≡ d.waiting) × (left.ending ≡ d.ending)
