-- All frames that were ever transmitted, kept so that no payload of an item stands twice.
use Rattle.std.specs.Prelude.{◌≡◌, ℕ, ◌+◌, ◌-◌, ◌^◌, ◌≤◌, ◌==◌, nat_lt, List, [], ◌∷◌, ◌++◌, length, take, drop, if◌then◌else◌}
use Rattle.nob_frame.specs.declared.frame.Frame.{Frame}
use Rattle.nob_model_session.specs.Right.{data_frames}
use Rattle.nob_demo_scripts.specs.declared.batch.Batch.{Batch}
use Rattle.nob_demo_scripts.specs.declared.batch.Batch.TheVariants.{Run, Whole}
use Rattle.nob_demo_scripts.specs.declared.batch.Row.{Row}

-- the frames as callers see them, and how many more can be added at once without memory
pub record Log : Type 0 where
  pub frames : List Frame
  pub room : ℕ

-- the items that a space put, of those of space 1 and of space 2
abbrev pub items_of : (first second : List (List ℕ)) → ℕ → List (List ℕ)
items_of first second space = if space == 1 then first else second

-- the frames of a batch: of a run, those that carry its items
abbrev pub frames_in : (first second : List (List ℕ)) → Batch → List Frame
frames_in first second (Run run) = data_frames run.from run.to run.session run.ack run.first (take run.count (drop (run.first - 1) (items_of first second run.from)))
frames_in first second (Whole frames) = frames

-- the frames of batches, one after the other
abbrev pub all_frames : (first second : List (List ℕ)) → List Row → List Frame
all_frames first second [] = []
all_frames first second (row ∷ rows) = frames_in first second row.batch ++ all_frames first second rows

-- the items of a run are there
abbrev pub IsThere : (first second : List (List ℕ)) → Batch → Type 0
IsThere first second (Run run) = (1 ≤ run.first) × (run.first - 1 + run.count ≤ length (items_of first second run.from))
IsThere first second (Whole frames) = Unit {0}

-- each row knows how many frames stand before it, of which n stand before the first
abbrev pub AreCounted : (first second : List (List ℕ)) → ℕ → List Row → Type 0
AreCounted first second n [] = Unit {0}
AreCounted first second n (row ∷ rows) = (row.before ≡ n) × IsThere first second row.batch × AreCounted first second (n + length (frames_in first second row.batch)) rows

-- how many frames can be added at once without memory, where so many rows are free and so many frames are there
abbrev pub room_of : (free count : ℕ) → ℕ
room_of free count = if nat_lt 1 free then 2 ^ 64 - 1 - count else 0
