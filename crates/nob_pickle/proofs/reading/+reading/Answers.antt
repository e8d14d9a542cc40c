use Rattle.std.proofs.Common.{arith}
use Rattle.nob_pickle.specs.Reading.{tree_at}
use Rattle.nob_pickle.proofs.Loop.{goes_on, is_done}
use Rattle.nob_pickle.proofs.reading.+reading.Goals as goal

pub values_of-loop-preserved : goal.values_of-loop-preserved
values_of-loop-preserved t c =
    rw c.in_ok-push.ensures.items
    (goes_on (tree_at c.args.levels) _ c.args.count c.loop.counter _ _ _ _ _ _ c.loop-test.true c.in_ok-value.ensures.exact c.loop.invariant)

pub values_of-returns-clause-exact : goal.values_of-returns-clause-exact
values_of-returns-clause-exact t c =
    rw c.from_vec.ensures (is_done (tree_at c.args.levels) _ c.args.count c.loop.counter _ _ _ (omega (arith, c.loop-test.false)) c.loop.invariant)
