use Rattle.std.proofs.Common.{◌≡◌}
use Rattle.nob_slots.specs.Numbers.{numbers_of}
use Rattle.nob_slots.specs.Slots.{IsRising}
use Rattle.nob_space_messages.specs.Copies.{AreCarried}
use Rattle.nob_space_messages.specs.Lines.{AreMarked, items_of, without}
use Rattle.nob_queues.specs.Queues.{KeepsBut, marked_at, rows_at}
use Rattle.nob_space_messages.proofs.waits.drop_all.Given as goal

abbrev pub invariant-loop-stamp : goal.invariant-loop-stamp
invariant-loop-stamp l = IsRising (rows_at l.queues 0) × AreMarked (rows_at l.queues 0) (marked_at l.queues 0) × (without l.stamp-iterator (rows_at l.queues 0) ≡ without (numbers_of l.froms l.fn.peer) (rows_at l.fn.queues 0)) × KeepsBut l.fn.queues l.queues 0 × AreCarried l.counts (items_of (rows_at l.queues 0))
