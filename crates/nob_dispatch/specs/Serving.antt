-- A worker with the ends of its two lanes. Errands and objects stand oldest first where nothing else is said; receipts stand the newest FIRST.
use Rattle.std.specs.Prelude.{◌≡◌, ◌⊎◌, ℕ, Bool, true, false, List, ◌++◌, ◌∷◌, [], map, reverse, Option, Some, None, IfSome, Result, Ok, Err, if◌then◌else◌}
use Rattle.nob_model_types.specs.declared.answer.Job.{Job}
use Rattle.nob_pickle.specs.declared.value.Value.{Value}
use Rattle.nob_dispatch_objects.specs.declared.object.Done.{Done}
use Rattle.nob_dispatch_objects.specs.declared.object.Outcome.{Outcome}
use Rattle.nob_dispatch_lanes.specs.declared.ends.LanePut.{LanePut}
use Rattle.nob_dispatch_lanes.specs.declared.ends.LaneTake.{LaneTake}
use Rattle.nob_dispatch_lanes.specs.Ends.{given_by, got_by}
use Rattle.nob_dispatch.specs.KeeperError.{KeeperError}
use Rattle.nob_dispatch.specs.declared.errand.Errand.{Errand}
use Rattle.nob_dispatch.specs.declared.errand.Return.{Return}
use Rattle.nob_dispatch.specs.Ends.{ended, with_job}
use Rattle.nob_dispatch.specs.Steps.{object_in}
use Rattle.nob_dispatch.specs.Working.{Working, with_errand, without_object, freed, GoesOn}
use Rattle.nob_dispatch.specs.Stakes.{Stakes}
use Rattle.nob_dispatch.specs.Faults.{is_memory}
use Rattle.nob_dispatch.specs.declared.hand.Deed.{Deed}
use Rattle.nob_dispatch.specs.declared.hand.Deed.TheVariants as deeds

-- what an end of a lane gave, the first first
abbrev pub given : {X : Type 0} → LanePut X → List X
given end = given_by end.pass

-- what an end of a lane got, the first first
abbrev pub taken : {X : Type 0} → LaneTake X → List X
taken end = got_by end.pass

-- a job's number, and the index of its object
abbrev pub place : Job → ℕ × ℕ
place job = (job.job, job.target)

-- those of a job, if there is one
abbrev pub place_in : Option Job → Option (ℕ × ℕ)
place_in None = None
place_in (Some job) = Some (place job)

-- all, the newest FIRST, are those done, in order, and the one that isn't yet; once some are missed, those stand above the ones done
abbrev pub Follows : {X : Type 0} → (misses : Bool) → (next : Option X) → (all done : List X) → Type 0
Follows false next all done = all ≡ with_job next done
Follows true next all done = (missed : List _) × (all ≡ with_job next (missed ++ done))

-- whether there is an error that makes a hand give up
abbrev pub gives_up : Option KeeperError → Bool
gives_up None = false
gives_up (Some error) = true

-- a hand gives up from a turn on that the keeper refused for another reason than want of memory, and for none else
abbrev pub fault_after : Result Deed KeeperError → Option KeeperError → Option KeeperError
fault_after (Ok deed) before = before
fault_after (Err error) before = if is_memory error then before else Some error

-- a hand, as contracts see it
pub record Serving (O : Type 0) : Type 0 where
  -- the errands that it got, the first first
  pub taken : List (Errand O)
  -- the objects that it gave back
  pub given : List (Return O)
  -- its worker
  pub worker : Working O
  -- the error of the keeper for which it gives its jobs up, if there was one
  pub fault : Option KeeperError
  -- whether it heard that nobody gets what it gives back
  pub is_alone : Bool
  -- the stakes of its ends
  pub stakes : Stakes O

module _ {O : Type 0} where
  -- the numbers of the jobs of errands
  abbrev pub numbers : List (Errand O) → List ℕ
  numbers errands = map (λ errand. errand.job.job) errands

  -- the number of each errand's job, and the index of its object
  abbrev pub places : List (Errand O) → List (ℕ × ℕ)
  places errands = map (λ errand. place errand.job) errands

  -- the number of the job that each object comes back from, and its index
  abbrev pub returned : List (Return O) → List (ℕ × ℕ)
  returned backs = map (λ back. (back.job, back.index)) backs

  -- the job that runs, if one does, is that of the newest errand, of those the newest FIRST
  abbrev pub Runs : Option Job → List (Errand O) → Type 0
  Runs None errands = Unit {0}
  Runs (Some job) [] = ⊥
  Runs (Some job) (newest ∷ earlier) = newest.job ≡ job

  -- the jobs that a hand got are, in order, those that its receipts ended, those that it gave up, and the one that its worker keeps; they are those whose
  -- objects it gave back, each with its own index, those whose objects nobody was there to get, and the one whose object its worker has, the newest one;
  -- and what makes it give up isn't want of memory
  abbrev pub IsTied : Serving O → Type 0
  IsTied s =
      Follows (gives_up s.fault) s.worker.job (numbers (reverse s.taken)) (ended s.worker.receipts)
      × Follows s.is_alone (place_in s.worker.running) (places (reverse s.taken)) (returned (reverse s.given))
      × Runs s.worker.running (reverse s.taken)
      × IfSome s.fault (λ error. is_memory error ≡ false)

  -- an errand was got: its job is the next, and the worker keeps it with its object
  abbrev pub Gets : (old new : Serving O) → Type 0
  Gets old new = (errand : Errand O) × (new ≡ record { taken = old.taken ++ errand ∷ []; given = old.given; worker = with_errand errand old.worker; fault = old.fault; is_alone = old.is_alone; stakes = old.stakes })

  -- nothing is given back, or the object that was there
  abbrev pub GivesAtMost : Option O → (old new : List (Return O)) → Type 0
  GivesAtMost object old new = (new ≡ old) ⊎ ((back : Return O) × (new ≡ old ++ back ∷ []) × (object ≡ Some back.object))

  -- a turn of a hand gives back the object that its worker has, as it is, or nothing
  abbrev pub GivesBack : (old new : Serving O) → Type 0
  GivesBack old new = GivesAtMost (object_in old.worker.course) old.given new.given

  -- a worker is as it was where memory was wanted, and keeps no job any more after any other error of the keeper
  abbrev pub IsLeftBy : (wants : Bool) → (old new : Working O) → Type 0
  IsLeftBy true old new = new ≡ old
  IsLeftBy false old new = new ≡ freed old

  -- what a turn of a hand runs, by what it came to: its object comes back, or its worker goes on by one step; a hand that gives up keeps no job any more
  abbrev pub RunsBy : (begins : O → ℕ → Value → Outcome → O → Type 0) → (resumes : O → Done → Outcome → O → Type 0) → Result Deed KeeperError → (old new : Serving O) → Type 0
  RunsBy begins resumes result old new = by old.fault result
    where
      by : Option KeeperError → Result Deed KeeperError → Type 0
      by (Some error) turned = new.worker ≡ freed old.worker
      by None (Ok deeds.Did) = (new.worker ≡ without_object old.worker) ⊎ GoesOn begins resumes old.worker new.worker
      by None (Ok deeds.Ended) = (old.worker.course ≡ None) × GoesOn begins resumes old.worker new.worker
      by None (Ok deeds.Later) = GoesOn begins resumes old.worker new.worker
      by None (Ok deeds.Idle) = new.worker ≡ old.worker
      by None (Err error) = IsLeftBy (is_memory error) old.worker new.worker

  -- a hand whose job has ended keeps none, and so does one that has nothing to do, or has just begun to give up
  abbrev pub IsFreeAfter : Result Deed KeeperError → Serving O → Type 0
  IsFreeAfter (Ok deeds.Ended) s = s.worker.job ≡ None
  IsFreeAfter (Ok deeds.Idle) s = s.worker.job ≡ None
  IsFreeAfter (Ok deeds.Did) s = Unit {0}
  IsFreeAfter (Ok deeds.Later) s = Unit {0}
  IsFreeAfter (Err error) s = is_memory error ≡ false → s.worker.job ≡ None
