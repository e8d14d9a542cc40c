-- A dispatcher with the ends of its two lanes. In lists of the errands and objects that ends gave and got the first stands first.
use Rattle.std.specs.Prelude.{◌≡◌, ◌⊎◌, ◌≤◌, ◌+◌, ◌-◌, ℕ, Bool, true, not, List, [], ◌∷◌, ◌++◌, length, map, reverse, Option, Some, None, Result, Ok, Err, if◌then◌else◌}
use Rattle.nob_model_types.specs.declared.answer.Job.{Job}
use Rattle.nob_dispatch.specs.KeeperError.{KeeperError}
use Rattle.nob_dispatch.specs.Stakes.{Stakes}
use Rattle.nob_dispatch.specs.declared.desk.Assigned.{Assigned}
use Rattle.nob_dispatch.specs.declared.desk.Assigned.TheVariants as answers
use Rattle.nob_dispatch.specs.declared.dispatcher.Handing.{Handing}
use Rattle.nob_dispatch.specs.declared.errand.Errand.{Errand}
use Rattle.nob_dispatch.specs.declared.errand.Return.{Return}
use Rattle.nob_dispatch.specs.declared.shelf.Place.{Place}
use Rattle.nob_dispatch.specs.declared.shelf.Place.TheVariants.{Here, Away}
use Rattle.nob_dispatch.specs.Ends.{with_job}
use Rattle.nob_dispatch.specs.Dispatching.{Dispatching}
use Rattle.nob_dispatch.specs.Dispatching as dispatching
use Rattle.nob_dispatch.specs.Shelves.{place_of, with_place, is_away}

-- a desk, as contracts see it
pub record Assigning (O : Type 0) : Type 0 where
  -- the errands that it gave, the first first
  pub given : List (Errand O)
  -- the objects that came back
  pub back : List (Return O)
  -- the job that it handed on and could not give, since nobody gets any more
  pub unsent : Option Job
  -- whether it heard that nobody gets any more
  pub is_alone : Bool
  -- how many objects it takes to be away
  pub away : ℕ
  -- whether it claims no more
  pub has_stopped : Bool
  -- its dispatcher
  pub dispatcher : Dispatching O
  -- the stakes of its ends
  pub stakes : Stakes O

module _ {O : Type 0} where
  -- the jobs of errands
  abbrev pub jobs : List (Errand O) → List Job
  jobs errands = map (λ errand. errand.job) errands

  -- the jobs that a desk handed on, the newest FIRST
  abbrev pub handed_on : Assigning O → List Job
  handed_on a = with_job a.unsent (jobs (reverse a.given))

  -- each job that was claimed was handed on, unchanged, is kept, or was ended, as often; what was given and isn't back is counted as away, 512 at most;
  -- and a job isn't given only where nobody gets any more
  abbrev pub IsTied : Assigning O → Type 0
  IsTied a = dispatching.IsTied (handed_on a) a.dispatcher × (length a.given ≤ a.away + length a.back) × (a.away ≤ 512) × ((a.unsent ≡ None) ⊎ (a.is_alone ≡ true))

  -- the shelf once an object came back: where it is away it is here again, and else it is let go
  abbrev pub with_return : Return O → List (ℕ × Place O) → List (ℕ × Place O)
  with_return back shelf = if is_away (place_of back.index shelf) then with_place back.index (Here back.object) shelf else shelf

  -- a desk to which an object came back
  abbrev pub with_back : Return O → Assigning O → Assigning O
  with_back back a = record { given = a.given; back = a.back ++ back ∷ []; unsent = a.unsent; is_alone = a.is_alone; away = a.away - 1; has_stopped = a.has_stopped; dispatcher = dispatching.with_shelf (with_return back a.dispatcher.shelf) a.dispatcher; stakes = a.stakes }

  -- a desk to which these came back, the newest of which stands FIRST
  abbrev pub with_all_back : List (Return O) → Assigning O → Assigning O
  with_all_back [] a = a
  with_all_back (back ∷ earlier) a = with_back back (with_all_back earlier a)

  -- an object came back, and all else is as it was
  abbrev pub ComesBack : (old new : Assigning O) → Type 0
  ComesBack old new = (back : Return O) × (new ≡ with_back back old)

  -- some objects came back, or none, and all else is as it was
  abbrev pub SomeComeBack : (old new : Assigning O) → Type 0
  SomeComeBack old new = (came : List (Return O)) × (new ≡ with_all_back came old)

  -- all but the objects, and what came back, is as it was
  abbrev pub IsSameBesideBack : (old new : Assigning O) → Type 0
  IsSameBesideBack old new = (new.given ≡ old.given) × (new.unsent ≡ old.unsent) × (new.is_alone ≡ old.is_alone) × (new.has_stopped ≡ old.has_stopped) × (new.stakes ≡ old.stakes) × dispatching.IsSameBesideShelf old.dispatcher new.dispatcher

  -- a desk with another dispatcher
  abbrev pub with_dispatcher : Dispatching O → Assigning O → Assigning O
  with_dispatcher d a = record { given = a.given; back = a.back; unsent = a.unsent; is_alone = a.is_alone; away = a.away; has_stopped = a.has_stopped; dispatcher = d; stakes = a.stakes }

  -- a desk that gave an errand more, whose object is away
  abbrev pub with_given : Errand O → Assigning O → Assigning O
  with_given errand a = record { given = a.given ++ errand ∷ []; back = a.back; unsent = a.unsent; is_alone = a.is_alone; away = a.away + 1; has_stopped = a.has_stopped; dispatcher = a.dispatcher; stakes = a.stakes }

  -- a desk that keeps a job, having heard that nobody gets any more
  abbrev pub with_unsent : Job → Assigning O → Assigning O
  with_unsent job a = record { given = a.given; back = a.back; unsent = Some job; is_alone = true; away = a.away; has_stopped = a.has_stopped; dispatcher = a.dispatcher; stakes = a.stakes }

  -- one errand is given, with the object of its job's index, which was here and is away from then on; all else but the dispatcher stays
  abbrev pub GivesErrand : (old new : Assigning O) → Type 0
  GivesErrand old new = (errand : Errand O) × (new ≡ with_given errand (with_dispatcher new.dispatcher old))
      × (place_of errand.job.target old.dispatcher.shelf ≡ Some (Here errand.object)) × (new.dispatcher.shelf ≡ with_place errand.job.target Away old.dispatcher.shelf)

  -- no errand is given: all objects stay at their places, and all else but the dispatcher stays
  abbrev pub GivesNone : (old new : Assigning O) → Type 0
  GivesNone old new = (new ≡ with_dispatcher new.dispatcher old) × (new.dispatcher.shelf ≡ old.dispatcher.shelf)

  -- an errand can't be given, since nobody gets any more: its job is kept, and each index has the place that it had; all else but the dispatcher stays
  abbrev pub KeepsUnsent : (old new : Assigning O) → Type 0
  KeepsUnsent old new = (job : Job) × (new ≡ with_unsent job (with_dispatcher new.dispatcher old))
      × ((index : ℕ) → place_of index new.dispatcher.shelf ≡ place_of index old.dispatcher.shelf)

  -- by what a turn answers, one errand is given, or none is, or one can't be; and an error changes nothing
  abbrev pub GivesOne : Result Assigned KeeperError → (old new : Assigning O) → Type 0
  GivesOne (Ok answers.Handed) old new = GivesErrand old new
  GivesOne (Ok answers.Did) old new = GivesNone old new ⊎ KeepsUnsent old new
  GivesOne (Ok answers.Later) old new = GivesNone old new
  GivesOne (Ok answers.Idle) old new = GivesNone old new
  GivesOne (Err error) old new = new ≡ old

  -- the desk's dispatcher goes on by one turn, and what it hands on is what the desk hands on
  abbrev pub GoesOn : (old new : Assigning O) → Type 0
  GoesOn old new =
      (handing : Result (Handing O) KeeperError) × (after : Dispatching O)
      × dispatching.GoesOn (not old.has_stopped) handing old.dispatcher after
      × dispatching.IsSameBesideShelf after new.dispatcher
      × (handed_on new ≡ dispatching.with_handed handing (handed_on old))

  -- some objects come back; then the dispatcher goes on, and one errand is given, or none
  abbrev pub GivesAfter : Result Assigned KeeperError → (old new : Assigning O) → Type 0
  GivesAfter result old new = (between : Assigning O) × SomeComeBack old between × GivesOne result between new × GoesOn between new

  -- a desk with other objects
  abbrev pub with_shelf : List (ℕ × Place O) → Assigning O → Assigning O
  with_shelf shelf a = record { given = a.given; back = a.back; unsent = a.unsent; is_alone = a.is_alone; away = a.away; has_stopped = a.has_stopped; dispatcher = dispatching.with_shelf shelf a.dispatcher; stakes = a.stakes }

  -- a desk that claims no more
  abbrev pub stopped : Assigning O → Assigning O
  stopped a = record { given = a.given; back = a.back; unsent = a.unsent; is_alone = a.is_alone; away = a.away; has_stopped = true; dispatcher = a.dispatcher; stakes = a.stakes }
