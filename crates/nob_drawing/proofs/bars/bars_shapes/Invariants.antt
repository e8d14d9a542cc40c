use Rattle.std.proofs.Common.{◌≡◌, ◌++◌, drop, flat_map}
use Rattle.nob_drawing.specs.Layout.{bar_shapes}
use Rattle.nob_drawing.proofs.bars.bars_shapes.Given as goal

-- those of the bars so far, and those of the others
abbrev pub invariant-loop-bar : goal.invariant-loop-bar
invariant-loop-bar l = l.shapes.items ++ flat_map (bar_shapes l.page) (drop l.bar-index l.bars) ≡ flat_map (bar_shapes l.page) l.bars
