-- A lane for each target: how many jobs of it run, and which of its ready jobs come first and last. No public clause cites this module.
use Rattle.std.specs.Prelude.{◌≡◌, ℕ, ◌==◌, Bool, not, ◌||◌, List, Option, Some, None, is_some, if◌then◌else◌}
use Rattle.std.specs.Map.{lookup}
use Rattle.nob_space_messages.specs.declared.lanes.Lane.{Lane}

-- whether a target is the same as another
abbrev pub is_target : ℕ → ℕ → Bool
is_target target other = target == other

-- the lanes by target, and how many more fit without memory
pub record LaneList : Type 0 where
  pub rows : List (ℕ × Lane)
  pub room : ℕ

-- the lane of a target
abbrev pub lane_at : List (ℕ × Lane) → ℕ → Option Lane
lane_at rows target = lookup (is_target target) rows

-- new has this lane at the target, and at every other one what old has
abbrev pub PutsLane : List (ℕ × Lane) → List (ℕ × Lane) → ℕ → Option Lane → Type 0
PutsLane old new target lane = (other : ℕ) → lane_at new other ≡ (if is_target target other then lane else lane_at old other)

-- whether a job of the lane runs or is ready
abbrev pub is_used : Lane → Bool
is_used lane = not (lane.runs == 0) || is_some lane.first

-- the lane, if it is used
abbrev pub if_used : Lane → Option Lane
if_used lane = if is_used lane then Some lane else None

-- how many jobs of a lane run
abbrev pub runs_in : Option Lane → ℕ
runs_in None = 0
runs_in (Some lane) = lane.runs

-- a lane of no jobs
abbrev pub no_jobs : Lane
no_jobs = record { runs = 0; first = None; last = 0 }

-- the lane, or one of no jobs
abbrev pub or_no_jobs : Option Lane → Lane
or_no_jobs None = no_jobs
or_no_jobs (Some lane) = lane

-- the stamp of the last ready job of a lane, if there is any
abbrev pub last_of : Lane → Option ℕ
last_of lane = if is_some lane.first then Some lane.last else None
