-- The ready jobs of each target in line under rising stamps: which come first, next before and next behind. No public clause cites this module.
use Rattle.std.specs.Prelude.{◌≡◌, ℕ, ◌+◌, ◌<◌, ◌≤◌, ◌==◌, Bool, true, false, ◌&&◌, List, Option, Some, None, IsSome, is_some, if◌then◌else◌}
use Rattle.std.specs.Option.{option_map, unwrap_or}
use Rattle.nob_slots.specs.Slots.{item_at, is_marked}
use Rattle.nob_space_messages.specs.declared.lanes.Lane.{Lane}
use Rattle.nob_space_messages.specs.declared.links.Link.{Link}
use Rattle.nob_space_messages.specs.Lanes.{lane_at}

-- the target of the job under a stamp
abbrev pub target_at : List (ℕ × Link) → ℕ → Option ℕ
target_at links stamp = option_map (λ link. link.target) (item_at links stamp)

-- the stamp that a link has before it, if there is one
abbrev pub before_of : Option Link → Option ℕ
before_of None = None
before_of (Some link) = link.before

-- the stamp that a link has behind it, if there is one
abbrev pub behind_of : Option Link → Option ℕ
behind_of None = None
behind_of (Some link) = link.behind

-- the stamp next before one in the line of its target
abbrev pub before_at : List (ℕ × Link) → ℕ → Option ℕ
before_at links stamp = before_of (item_at links stamp)

-- the stamp next behind one in the line of its target
abbrev pub behind_at : List (ℕ × Link) → ℕ → Option ℕ
behind_at links stamp = behind_of (item_at links stamp)

-- whether there is a job, and it has this target
abbrev pub has_target : ℕ → Option ℕ → Bool
has_target target None = false
has_target target (Some other) = target == other

-- whether the job under a stamp has this target
abbrev pub is_in_line : (targets : ℕ → Option ℕ) → (target at : ℕ) → Bool
is_in_line targets target at = has_target target (targets at)

-- the stamp is the first in line from another on, if there is one
abbrev pub IsNext : (ℕ → Bool) → ℕ → Option ℕ → Type 0
IsNext line from None = (at : ℕ) → from ≤ at → line at ≡ false
IsNext line from (Some next) = (from ≤ next) × (line next ≡ true) × ((at : ℕ) → from ≤ at → at < next → line at ≡ false)

-- the stamp is the last in line before another, if there is one
abbrev pub IsBefore : (ℕ → Bool) → ℕ → Option ℕ → Type 0
IsBefore line to None = (at : ℕ) → at < to → line at ≡ false
IsBefore line to (Some before) = (before < to) × (line before ≡ true) × ((at : ℕ) → before < at → at < to → line at ≡ false)

-- the stamp is in line, and none behind it
abbrev pub IsLast : (ℕ → Bool) → ℕ → Type 0
IsLast line last = (line last ≡ true) × ((at : ℕ) → last < at → line at ≡ false)

-- a lane has the first and the last in line, if there are any
abbrev pub IsLane : (ℕ → Bool) → Option Lane → Type 0
IsLane line None = (at : ℕ) → line at ≡ false
IsLane line (Some lane) = IsNext line 0 lane.first × (IsSome lane.first → IsLast line lane.last)

-- what holds of the stamps next before and behind those in line, and of its lane
pub record IsLine (line : ℕ → Bool) (befores behinds : ℕ → Option ℕ) (lane : Option Lane) : Type 0 where
  pub before : (at : ℕ) → line at ≡ true → IsBefore line at (befores at)
  pub behind : (at : ℕ) → line at ≡ true → IsNext line (at + 1) (behinds at)
  pub ends : IsLane line lane

-- whether a stamp is this one
abbrev pub is_place : Option ℕ → ℕ → Bool
is_place None at = false
is_place (Some place) at = place == at

-- whether no job of the lane runs, and a stamp is that of its first
abbrev pub is_head_of : Option Lane → ℕ → Bool
is_head_of None at = false
is_head_of (Some lane) at = (lane.runs == 0) && is_place lane.first at

-- whether there is a job under a stamp that is the first of its target, of which none runs
abbrev pub is_head : List (ℕ × Lane) → Option ℕ → ℕ → Bool
is_head lanes None at = false
is_head lanes (Some target) at = is_head_of (lane_at lanes target) at

-- what holds of the lines, of the lanes and of the marks, by the targets of the ready jobs under their stamps
pub record AreLines (targets befores behinds : ℕ → Option ℕ) (lanes : List (ℕ × Lane)) (marked : List ℕ) : Type 0 where
  pub line : (target : ℕ) → IsLine (is_in_line targets target) befores behinds (lane_at lanes target)
  pub head : (at : ℕ) → is_marked marked at ≡ is_head lanes (targets at) at

-- the same, of links that have the targets
abbrev pub AreLinked : List (ℕ × Link) → List (ℕ × Lane) → List ℕ → Type 0
AreLinked links lanes marked = AreLines (target_at links) (before_at links) (behind_at links) lanes marked

-- what functions have at stamps, with this at one stamp
abbrev pub with_at : (ℕ → Option ℕ) → ℕ → Option ℕ → ℕ → Option ℕ
with_at values place value at = if place == at then value else values at

-- what a function has at stamps, with this at one stamp, if there is one
abbrev pub with_if : (ℕ → Option ℕ) → Option ℕ → Option ℕ → ℕ → Option ℕ
with_if values place value at = if is_place place at then value else values at

-- the first stamp, or this one if there is none
abbrev pub first_or : Option ℕ → ℕ → Option ℕ
first_or None place = Some place
first_or (Some first) place = Some first

-- the lane once a job is put behind the others of its line
abbrev pub lane_pushed : Lane → ℕ → Lane
lane_pushed lane stamp = record { runs = lane.runs; first = first_or lane.first stamp; last = stamp }

-- the lane once a job is taken out of its line, that had these stamps before and behind it
abbrev pub lane_taken : Lane → (before behind : Option ℕ) → Lane
lane_taken lane before behind = record { runs = lane.runs; first = if is_some before then lane.first else behind; last = if is_some behind then lane.last else unwrap_or before lane.last }

-- after a mark is written at the first of a lane, if there is one
abbrev pub MarksFirst : List ℕ → List ℕ → Lane → Type 0
MarksFirst old new lane = (at : ℕ) → is_marked new at ≡ (if is_place lane.first at then lane.runs == 0 else is_marked old at)
