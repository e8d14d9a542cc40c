-- Which entry comes next: the earliest of the next ones of all spaces, once no space may have an earlier one of which nothing was told.
use Rattle.std.specs.Prelude.{◌≡◌, ◌≤◌, ◌<◌, ◌+◌, ◌-◌, ◌&&◌, ⊤, ℕ, Bool, true, false, not, nat_lt, List, [], ◌∷◌, length, slice_get, is_none, Option, Some, None, Result, Ok, Err, if◌then◌else◌}
use lib.ListN.{set}
use Rattle.std.specs.List.{list_any}
use Rattle.nob_model_traces.specs.declared.moment.Moment.{Moment}
use Rattle.nob_model_traces.specs.Merged.{is_earlier}
use Rattle.nob_recall.specs.declared.dated.Dated.{Dated}
use Rattle.nob_recall.specs.declared.head.Upcoming.{Upcoming}

-- when the next entry of space s was made
abbrev pub moment_in : ℕ → Option Dated → Option Moment
moment_in s None = None
moment_in s (Some dated) = Some (record { stamp = dated.stamp; space = s })

-- the same of what is known of a space
abbrev pub moment_of : ℕ → Upcoming → Option Moment
moment_of s head = moment_in s head.next

-- the earlier of two
abbrev pub earlier_of : Option Moment → Option Moment → Option Moment
earlier_of None other = other
earlier_of (Some one) None = Some one
earlier_of (Some one) (Some other) = if is_earlier other one then Some other else Some one

-- when the earliest of the next entries was made, of spaces that are counted from s on
abbrev pub earliest : ℕ → List Upcoming → Option Moment
earliest s [] = None
earliest s (head ∷ heads) = earlier_of (moment_of s head) (earliest (s + 1) heads)

-- whether a space has more entries, of which none was told
abbrev pub is_wanted : Upcoming → Bool
is_wanted head = is_none head.next && not head.ended

-- the same of what is known of a space, if anything is
abbrev pub is_wanted_by : Option Upcoming → Bool
is_wanted_by None = false
is_wanted_by (Some head) = is_wanted head

-- the same of space p
abbrev pub wants : ℕ → List Upcoming → Bool
wants p heads = is_wanted_by (slice_get heads (p - 1))

-- whether the next entry of a space wasn't told yet, and may have this stamp or a lower one
abbrev pub may_come : ℕ → Upcoming → Bool
may_come stamp head = is_wanted head && nat_lt head.last stamp

-- when an entry was made
abbrev pub dated_moment : Dated → Moment
dated_moment dated = record { stamp = dated.stamp; space = dated.entry.space }

-- an entry, where there is one, is of space s
abbrev pub IsOfSpace : ℕ → Option Dated → Type 0
IsOfSpace s None = ⊤
IsOfSpace s (Some dated) = dated.entry.space ≡ s

-- what the type of next entries keeps: there are 32 spaces at most, and what is known of space p stands at place p - 1
pub record AreOfSpaces (heads : List Upcoming) : Type 0 where
  pub few : length heads ≤ 32
  pub own : (place : ℕ) (head : Upcoming) → slice_get heads place ≡ Some head → IsOfSpace (place + 1) head.next

-- nothing was told of a space yet
abbrev pub no_head : Upcoming
no_head = record { next = None; last = 0; ended = false }

-- an entry can be told: its space has more entries, of which none was told yet, and its stamp is above the last one
abbrev pub CanTell : Upcoming → Dated → Type 0
CanTell head dated = (is_wanted head ≡ true) × (head.last < dated.stamp)

-- what is known of its space once it was told
abbrev pub told : Dated → Upcoming
told dated = record { next = Some dated; last = dated.stamp; ended = false }

-- the entry of a space is told: nothing else changes
pub record IsTold (old new : List Upcoming) (dated : Dated) : Type 0 where
  pub head : Upcoming
  pub there : slice_get old (dated.entry.space - 1) ≡ Some head
  pub can : CanTell head dated
  pub new_is : new ≡ set old (dated.entry.space - 1) (told dated)

-- it can be told, and what is known of its space stands at this place
pub record CanTellAt (heads : List Upcoming) (at : ℕ) (dated : Dated) : Type 0 where
  pub at_is : at ≡ dated.entry.space - 1
  pub head : Upcoming
  pub there : slice_get heads (dated.entry.space - 1) ≡ Some head
  pub can : CanTell head dated

-- it can't be told
abbrev pub CannotTell : List Upcoming → Dated → Type 0
CannotTell heads dated = (head : Upcoming) → slice_get heads (dated.entry.space - 1) ≡ Some head → CanTell head dated → ⊥

-- a space has no more entries than those that were told
abbrev pub with_ended : Upcoming → Upcoming
with_ended head = record { next = head.next; last = head.last; ended = true }

-- what is known of a space once its next entry was passed
abbrev pub without_next : Upcoming → Upcoming
without_next head = record { next = None; last = head.last; ended = head.ended }

-- what is known at a place changes so, where something is known
abbrev pub changed_at : (Upcoming → Upcoming) → ℕ → List Upcoming → Option Upcoming → List Upcoming
changed_at change place heads None = heads
changed_at change place heads (Some head) = set heads place (change head)

-- space p has no more entries
abbrev pub with_end : ℕ → List Upcoming → List Upcoming
with_end p heads = changed_at with_ended (p - 1) heads (slice_get heads (p - 1))

-- the next entry of space p was passed
abbrev pub with_passed : ℕ → List Upcoming → List Upcoming
with_passed p heads = changed_at without_next (p - 1) heads (slice_get heads (p - 1))

-- an entry is due: it is the next one of its space, and the earliest of all that are, and no space may have one as early of which nothing was told
pub record IsDue (heads : List Upcoming) (dated : Dated) : Type 0 where
  pub none_may_come : list_any (may_come dated.stamp) heads ≡ false
  pub earliest_is : earliest 1 heads ≡ Some (dated_moment dated)
  pub head : Upcoming
  pub there : slice_get heads (dated.entry.space - 1) ≡ Some head
  pub next : head.next ≡ Some dated
