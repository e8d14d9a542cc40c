use Rattle.std.proofs.Common.{◌≡◌, take}
use Rattle.std.specs.Map.{keys_of}
use Rattle.nob_slots.specs.Slots.{IsRising}
use Rattle.nob_space_messages.specs.Lines.{AreMarked, lines_of, lowered, times_of}
use Rattle.nob_queues.specs.Queues.{KeepsBut, marked_at, rows_at}
use Rattle.nob_space_messages.proofs.losing.lower_all.Given as goal

abbrev pub invariant-loop-at : goal.invariant-loop-at
invariant-loop-at l = IsRising (rows_at l.queues 0) × AreMarked (rows_at l.queues 0) (marked_at l.queues 0) × ((rows_at l.queues 0) ≡ lowered (times_of l.lines (take l.at (keys_of (lines_of l.lines l.fn.owner).rows))) (rows_at l.fn.queues 0)) × KeepsBut l.fn.queues l.queues 0
