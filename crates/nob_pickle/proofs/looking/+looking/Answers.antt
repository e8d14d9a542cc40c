use Rattle.std.proofs.Common.{◌<◌, arith}
use Rattle.nob_pickle.specs.Trees.{weight, weight_all}
use Rattle.nob_pickle.specs.Shape.{tree, forest}
use Rattle.nob_pickle.proofs.Counted.{found_here, found_later, left_later}
use Rattle.nob_pickle.proofs.Ahead.{weight_at}
use Rattle.nob_pickle.proofs.looking.+looking.Goals as goal

pub look_among-look-requires : goal.look_among-look-requires
look_among-look-requires t c = (
  let less : weight (tree c.value-item.result) < weight_all (forest c.args.values.now) = weight_at c.args.values.now c.loop-value.value-index c.value-item.result c.loop-value-test.true c.value-item.is in omega (arith, less, c.decreases),
  tt,
)

pub look_among-returns-in-Ok : goal.look_among-returns-in-Ok
look_among-returns-in-Ok t c =
    found_here c.args.values.now c.loop-value.value-index c.value-item.result c.loop-value-test.true c.value-item.is c.args.number c.loop-value.missing c.loop-value.invariant.0 c.in-Ok.rep c.in-Ok.ensures

pub look_among-loop-value-preserved : goal.look_among-loop-value-preserved
look_among-loop-value-preserved t c = (
  found_later c.args.values.now c.loop-value.value-index c.value-item.result c.loop-value-test.true c.value-item.is c.args.number c.loop-value.missing c.loop-value.invariant.0 c.in-Err.after c.in-Err.ensures,
  left_later c.args.values.now c.loop-value.value-index c.value-item.result c.loop-value-test.true c.value-item.is c.args.number c.loop-value.missing c.loop-value.invariant.0 c.in-Err.after c.in-Err.ensures c.loop-value.invariant.1,
)
