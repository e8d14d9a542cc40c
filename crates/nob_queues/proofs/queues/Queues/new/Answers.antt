use Rattle.std.proofs.Common.{List, Option, count_by, is_some, ap, arith}
use Rattle.nob_queues.proofs.Fresh.{none_kept}
use Rattle.nob_queues.proofs.queues.Queues.new.Goals as goal

pub invariant_of-result : goal.invariant_of-result
invariant_of-result g c =
    let count = ap (λ (ss : List (Option g.row.T.Denot)). count_by is_some ss) c.new.ensures.empty in (
      none_kept c.new-2.result c.new-3.result c.new-4.result c.new-2.ensures.rows c.new-3.ensures.rows c.new-4.ensures.rows c.new.result.slots c.new.ensures.empty,
      omega (arith, count),
    )
