use Rattle.std.proofs.Common.{◌≡◌, ◌+◌, nat_lt}
use Rattle.nob_slots.specs.Slots.{IsRising}
use Rattle.nob_space_messages.specs.Waiting.{due_to_all}
use Rattle.nob_space_messages.specs.Lines.{AreMarked, is_standing, items_of, lent_where, stands}
use Rattle.nob_queues.specs.Queues.{KeepsBut, marked_at, rows_at}
use Rattle.nob_space_messages.proofs.lending.lend_line.Given as goal

abbrev pub invariant-loop-place : goal.invariant-loop-place
invariant-loop-place l = IsRising (rows_at l.queues 0) × AreMarked (rows_at l.queues 0) (marked_at l.queues 0) × ((rows_at l.queues 0) ≡ lent_where l.rep (λ stamp. nat_lt 0 (stands l.lines l.rep l.place stamp)) (rows_at l.fn.queues 0))
    × (l.lent + due_to_all l.rep (items_of (rows_at l.queues 0)) ≡ due_to_all l.rep (items_of (rows_at l.fn.queues 0))) × ((rows_at l.queues 0) ≡ lent_where l.rep (is_standing l.last) (rows_at l.queues 0)) × KeepsBut l.fn.queues l.queues 0
