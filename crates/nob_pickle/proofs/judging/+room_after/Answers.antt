use Rattle.std.proofs.Common.{◌≡◌, ◌<◌, ap, arith}
use Rattle.nob_pickle.specs.Trees.{weight, weight_all, elements_of}
use Rattle.nob_pickle.specs.Shape.{tree, forest}
use Rattle.nob_pickle.proofs.Ahead.{weight_at, elements_lighter}
use Rattle.nob_pickle.proofs.judging.+room_after.Goals as goal

pub room_after-requires : goal.room_after-requires
room_after-requires t c = (
  let elements = c.elements-element-items in
      let less : weight (tree c.element-item.result) < weight_all (forest elements.result.now) = weight_at elements.result.now c.loop-element.element-index c.element-item.result c.loop-element-test.true c.element-item.is in
      let same : weight_all (forest elements.result.now) ≡ weight_all (elements_of (tree c.args.value.now)) = ap weight_all elements.ensures.inside in
      omega (arith, less, same, elements_lighter (tree c.args.value.now), c.decreases),
  tt,
)
