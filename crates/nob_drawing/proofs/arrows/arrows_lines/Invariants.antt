use Rattle.std.proofs.Common.{◌≡◌, ◌++◌, drop}
use Rattle.nob_drawing.specs.Layout.{arrows_lines}
use Rattle.nob_drawing.proofs.arrows.arrows_lines.Given as goal

-- those of the arrows so far, and those of the others
abbrev pub invariant-loop-arrow : goal.invariant-loop-arrow
invariant-loop-arrow l = l.shapes.items ++ arrows_lines l.page (drop l.arrow-index l.arrows) ≡ arrows_lines l.page l.arrows
