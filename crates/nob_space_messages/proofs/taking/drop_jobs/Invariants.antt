use Rattle.std.proofs.Common.{◌≡◌, ℕ, ◌≤◌}
use Rattle.nob_queues.specs.Queues.{KeepsBut, rows_at}
use Rattle.nob_slots.specs.Numbers.{numbers_of}
use Rattle.nob_slots.specs.Slots.{IsRising}
use Rattle.nob_space_messages.specs.InLine.{AreLinked}
use Rattle.nob_space_messages.specs.Lanes.{lane_at, runs_in}
use Rattle.nob_space_messages.specs.Lines.{without}
use Rattle.nob_space_messages.specs.Rows.{SameTargets}
use Rattle.nob_space_messages.proofs.taking.drop_jobs.Given as goal

abbrev pub invariant-loop-stamp : goal.invariant-loop-stamp
invariant-loop-stamp l = IsRising (rows_at l.queues 1) × AreLinked l.lines.links.rows l.lines.lanes.rows l.lines.links.marked × SameTargets l.lines.links.rows (rows_at l.queues 1)
    × (without l.stamp-iterator (rows_at l.queues 1) ≡ without (numbers_of l.froms l.fn.peer) (rows_at l.fn.queues 1)) × ((t : ℕ) → runs_in (lane_at l.lines.lanes.rows t) ≡ runs_in (lane_at l.fn.lines.lanes.rows t))
    × KeepsBut l.fn.queues l.queues 1 × (l.lines.links.room ≡ l.fn.lines.links.room) × (l.fn.lines.lanes.room ≤ l.lines.lanes.room)
