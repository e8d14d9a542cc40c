use Rattle.std.proofs.Common.{◌≡◌}
use Rattle.nob_slots.specs.Slots.{IsRising}
use Rattle.nob_space_messages.specs.Lines.{AreMarked, lowered, stands}
use Rattle.nob_queues.specs.Queues.{KeepsBut, marked_at, rows_at}
use Rattle.nob_space_messages.proofs.losing.lower_line.Given as goal

abbrev pub invariant-loop-place : goal.invariant-loop-place
invariant-loop-place l = IsRising (rows_at l.queues 0) × AreMarked (rows_at l.queues 0) (marked_at l.queues 0) × ((rows_at l.queues 0) ≡ lowered (stands l.lines l.rep l.place) (rows_at l.fn.queues 0)) × KeepsBut l.fn.queues l.queues 0
