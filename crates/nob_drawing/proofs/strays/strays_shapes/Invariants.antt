use Rattle.std.proofs.Common.{◌≡◌, ◌++◌, drop, flat_map}
use Rattle.nob_drawing.specs.Layout.{stray_shapes}
use Rattle.nob_drawing.proofs.strays.strays_shapes.Given as goal

-- those of the arrivals so far, and those of the others
abbrev pub invariant-loop-stray : goal.invariant-loop-stray
invariant-loop-stray l = l.shapes.items ++ flat_map (stray_shapes l.page) (drop l.stray-index l.strays) ≡ flat_map (stray_shapes l.page) l.strays
