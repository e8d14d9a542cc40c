use Rattle.std.proofs.Common.{◌≡◌, ◌++◌, drop, flat_map}
use Rattle.nob_drawing.specs.Writing.{shape_text}
use Rattle.nob_drawing.proofs.writing.put_shapes.Given as goal

-- what is written and what is left are all
abbrev pub invariant-loop-shape : goal.invariant-loop-shape
invariant-loop-shape l = l.text.items ++ flat_map shape_text (drop l.shape-index l.shapes) ≡ l.initial.text.items ++ flat_map shape_text l.shapes
