use Rattle.std.proofs.Common.{◌≡◌, ◌++◌, drop}
use Rattle.nob_drawing.specs.Layout.{arrows_words}
use Rattle.nob_drawing.proofs.arrows.arrows_words.Given as goal

-- those of the arrows so far, and those of the others
abbrev pub invariant-loop-arrow : goal.invariant-loop-arrow
invariant-loop-arrow l = l.shapes.items ++ arrows_words l.page (drop l.arrow-index l.arrows) ≡ arrows_words l.page l.arrows
