use Rattle.nob_kept.proofs.Staying.{apart_next, apart_all}
use Rattle.nob_kept.proofs.noted.search.Goals as goal

pub loop-spot-preserved : goal.loop-spot-preserved
loop-spot-preserved c = apart_next c.args.noted.now c.loop-spot.spot c.args.place _ c.loop-spot.invariant c.if-noted-spot.false

pub returns-clause-none : goal.returns-clause-none
returns-clause-none c none is = apart_all c.args.noted.now c.loop-spot.spot c.args.place c.loop-spot-test.false c.loop-spot.invariant is
