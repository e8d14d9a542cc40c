-- A run that is followed, and the next entry of each space: which is passed, and what comes of it.
use Rattle.std.specs.Prelude.{◌≡◌, ◌≤◌, ℕ, Bool, true, false, List, length, slice_get, Some, Result, Ok, Err}
use Rattle.std.specs.List.{list_any}
use Rattle.nob_recall.specs.declared.fault.WatchError.{WatchError}
use Rattle.nob_recall.specs.declared.dated.Dated.{Dated}
use Rattle.nob_recall.specs.declared.head.Upcoming.{Upcoming}
use Rattle.nob_recall.specs.Dues.{with_end, with_passed, IsTold as IsToldTo, IsDue, may_come}
use Rattle.nob_recall.specs.Orders.{InOrder, AreAhead}
use Rattle.nob_watch.specs.Reruns.{Following, Passes}

-- a run that is followed, and the next entry of each space: that of space p at place p - 1
pub record Watching : Type 0 where
  pub following : Following
  pub heads : List Upcoming

-- what the type of checkers that follow keeps: what was passed is in order, and no next entry is earlier
pub record IsWatching (watching : Watching) : Type 0 where
  pub some : 1 ≤ watching.following.n
  pub each : length watching.heads ≡ watching.following.n
  pub ahead : AreAhead watching.following.passed watching.heads
  pub in_order : InOrder watching.following.passed

-- the next entry of its space is told, and nothing is passed
pub record IsTold (old new : Watching) (dated : Dated) : Type 0 where
  pub following : new.following ≡ old.following
  pub heads : IsToldTo old.heads new.heads dated

-- space p has no more entries than those that were told
abbrev pub ended : ℕ → Watching → Watching
ended p watching = record { following = watching.following; heads = with_end p watching.heads }

-- all is passed up to the lowest of the last stamps: where the next entry of a space wasn't passed, another space may still have one of that stamp or a lower one
abbrev pub AreUpToLowest : List Upcoming → Type 0
AreUpToLowest heads = (place : ℕ) (head : Upcoming) (dated : Dated) → slice_get heads place ≡ Some head → head.next ≡ Some dated → list_any (may_come dated.stamp) heads ≡ true

-- what comes of going on, to the run and to the next entries: the entry that is due is passed, or not; or none is due, and nothing has changed
abbrev pub GoesOnBy : (old new : Following) → (heads after : List Upcoming) → Result Bool WatchError → Type 0
GoesOnBy old new heads after (Ok true) = (dated : Dated) × IsDue heads dated × Passes old new dated (Ok tt) × (after ≡ with_passed dated.entry.space heads)
GoesOnBy old new heads after (Ok false) = ((dated : Dated) → IsDue heads dated → ⊥) × (new ≡ old) × (after ≡ heads)
GoesOnBy old new heads after (Err error) = (dated : Dated) × IsDue heads dated × Passes old new dated (Err error) × (after ≡ heads)

-- what comes of going on
abbrev pub GoesOn : (old new : Watching) → Result Bool WatchError → Type 0
GoesOn old new result = GoesOnBy old.following new.following old.heads new.heads result
