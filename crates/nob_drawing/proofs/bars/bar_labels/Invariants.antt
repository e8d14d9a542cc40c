use Rattle.std.proofs.Common.{◌≡◌}
use Rattle.nob_drawing.specs.Layout as spec
use Rattle.nob_drawing.proofs.bars.bar_labels.Given as goal

-- those so far
abbrev pub invariant-loop-below : goal.invariant-loop-below
invariant-loop-below l = l.shapes.items ≡ spec.bar_labels l.page l.bar l.words l.below
