use Rattle.nob_check.proofs.Loaning.{next_lent}
use Rattle.nob_check.proofs.Passing.{one_more}
use Rattle.nob_check.proofs.judging.with_all.Goals as goal

pub loop-entry-preserved : goal.loop-entry-preserved
loop-entry-preserved c = record {
  whole = one_more c.args.n c.args.journal.now c.loop-entry.entry-index c.entry-item.result _ _ _ c.loop-entry-test.true c.entry-item.is c.in_ok-judging.ensures c.loop-entry.invariant.whole;
  lent = next_lent c.args.n c.entry-item.result c.loop-entry.judging c.in_ok-judging.judging c.in_ok-judging.ensures c.loop-entry.invariant.lent;
}
