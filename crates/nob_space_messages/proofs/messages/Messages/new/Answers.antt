use Rattle.std.proofs.Common.{ap, arith}
use Rattle.nob_queues.specs.Queues.{marked_at, room_at, rows_at}
use Rattle.nob_space_messages.specs.Lines.{reps_in}
use Rattle.nob_space_messages.proofs.None.{none_carried, none_counted, none_few, none_ready, none_waiting}
use Rattle.nob_space_messages.proofs.messages.Messages.new.Goals as goal

pub invariant_of-result : goal.invariant_of-result
invariant_of-result c =
    let queues = c.new.result in (
      none_waiting (rows_at queues 0) (c.new.ensures.rows 0) (marked_at queues 0) (room_at queues 0) c.new-2.result c.new-3.result c.new-2.ensures.none c.new-3.ensures,
      none_carried (rows_at queues 0) (c.new.ensures.rows 0) c.no_copies.result c.no_copies.ensures,
      none_few c.no_copies.result c.no_copies.ensures,
      (λ some. absurd (omega (arith, some))),
      none_ready (rows_at queues 1) (c.new.ensures.rows 1) (room_at queues 1) c.new-4.result.links c.new-4.result.lanes c.new-5.result c.new-4.ensures.links c.new-4.ensures.marked c.new-4.ensures.lanes c.new-5.ensures.none,
      none_counted (rows_at queues 2) (c.new.ensures.rows 2) c.new-4.result.lanes c.new-4.ensures.lanes,
    )

pub returns-clause-awaited : goal.returns-clause-awaited
returns-clause-awaited c = ap reps_in c.new-3.ensures
