use Rattle.std.proofs.Common.{◌++◌, List, ap, ◌∙◌}
use Rattle.nob_drawing.specs.declared.shape.Shape.{Shape}
use Rattle.nob_drawing.specs.Layout.{stray_shapes}
use Rattle.nob_drawing.proofs.Walked.{shapes_next}
use Rattle.nob_drawing.proofs.strays.strays_shapes.Goals as goal

pub loop-stray-preserved : goal.loop-stray-preserved
loop-stray-preserved c =
    shapes_next (stray_shapes c.args.page.now) c.args.strays.now c.loop-stray.stray-index c.stray-item.result _ _ _ c.loop-stray-test.true c.stray-item.is
    (c.in_ok-append.ensures.items ∙ ap (λ (more : List Shape). c.loop-stray.shapes.items ++ more) c.in_ok-more.ensures)
    c.loop-stray.invariant
