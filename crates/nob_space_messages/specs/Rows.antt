-- The ready jobs and those that run under their numbers. No public clause cites this module.
use Rattle.std.specs.Prelude.{◌≡◌, ℕ, ◌+◌, ◌^◌, ◌≤◌, ◌==◌, List, [], ◌∷◌, ◌++◌, Option, if◌then◌else◌}
use Rattle.std.specs.Option.{option_map}
use Rattle.nob_model_work.specs.declared.work.Run.{Run}
use Rattle.nob_model_acting.specs.Candidates.{target_of}
use Rattle.nob_slots.specs.Numbers.{NumberLists, numbers_of}
use Rattle.nob_slots.specs.Slots.{SlotList, item_at, IsAbove, IsRising}
use Rattle.nob_space_messages.specs.declared.entry.Entry.{Entry}
use Rattle.nob_space_messages.specs.declared.links.Link.{Link}
use Rattle.nob_space_messages.specs.InLine.{AreLinked, target_at}
use Rattle.nob_space_messages.specs.Lanes.{LaneList, lane_at, runs_in}
use Rattle.nob_space_messages.specs.Lines.{stamps_from}

-- the target of the message under a stamp
abbrev pub message_target : List (ℕ × Entry) → ℕ → Option ℕ
message_target rows stamp = option_map (λ entry. target_of entry.message.item) (item_at rows stamp)

-- each job has a message and a link under its stamp, of the same target
abbrev pub SameTargets : List (ℕ × Link) → List (ℕ × Entry) → Type 0
SameTargets links rows = (at : ℕ) → target_at links at ≡ message_target rows at

-- what holds of the ready messages, of what stands beside them, of the next stamp and of the room
pub record AreReady (rows : List (ℕ × Entry)) (rows_room : ℕ) (links : SlotList Link) (lanes : LaneList) (spaces : NumberLists) (next room : ℕ) : Type 0 where
  pub rising : IsRising rows
  pub below : IsAbove rows next
  pub lines : AreLinked links.rows lanes.rows links.marked
  pub targets : SameTargets links.rows rows
  -- each space has the stamps of the messages that came from it
  pub froms : (peer : ℕ) → numbers_of spaces peer ≡ stamps_from peer rows
  pub messages_room : room ≤ rows_room
  pub links_room : room ≤ links.room
  pub lanes_room : room ≤ lanes.room
  pub froms_room : room ≤ spaces.room
  -- the stamps, and so the jobs, can be counted
  pub small : next + room ≤ 2 ^ 60

-- the job under a number
abbrev pub run_of : ℕ × Entry → Run
run_of row = record { job = row.0; message = row.1.message }

-- the jobs under some numbers, the last one first
abbrev pub newest_first : List (ℕ × Entry) → List Run
newest_first [] = []
newest_first (row ∷ rows) = newest_first rows ++ run_of row ∷ []

-- how many of these jobs have a target
abbrev pub runs_with : List Run → ℕ → ℕ
runs_with [] target = 0
runs_with (run ∷ runs) target = if target_of run.message.item == target then 1 + runs_with runs target else runs_with runs target

-- of each target the lanes count as many jobs that run as there are
abbrev pub AreCounted : LaneList → List Run → Type 0
AreCounted lanes running = (target : ℕ) → runs_in (lane_at lanes.rows target) ≡ runs_with running target
