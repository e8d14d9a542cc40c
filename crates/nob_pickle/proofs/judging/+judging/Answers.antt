use Rattle.std.proofs.Common.{◌<◌, arith, sym}
use Rattle.nob_pickle.specs.Trees.{weight, weight_all}
use Rattle.nob_pickle.specs.Shape.{tree, forest}
use Rattle.nob_pickle.proofs.Ahead.{weight_at}
use Rattle.nob_pickle.proofs.Written.{left_goes_on, typed_goes_on}
use Rattle.nob_pickle.proofs.judging.+judging.Goals as goal

pub judge_all-judge-requires : goal.judge_all-judge-requires
judge_all-judge-requires t c = (
  let less : weight (tree c.value-item.result) < weight_all (forest c.args.values.now) = weight_at c.args.values.now c.loop-value.value-index c.value-item.result c.loop-value-test.true c.value-item.is in omega (arith, less, c.decreases),
  tt,
)

pub judge_all-loop-value-preserved : goal.judge_all-loop-value-preserved
judge_all-loop-value-preserved t c =
    let vs = c.args.values.now in
    let i = c.loop-value.value-index in
    let v = c.value-item.result in
    let lt = c.loop-value-test.true in (
      left_goes_on vs i v c.args.levels c.loop-value.left c.in_ok-left.left _ lt c.value-item.is (sym c.in_ok-left.ensures.left) c.loop-value.invariant.0,
      typed_goes_on vs i v lt c.value-item.is c.loop-value.invariant.1 c.in_ok-left.ensures.typed,
    )
