use Rattle.std.proofs.Common.{◌≡◌, ◌++◌, drop, flat_map}
use Rattle.nob_drawing.specs.Layout.{lost_shapes}
use Rattle.nob_drawing.proofs.losses.losses_shapes.Given as goal

-- those of the departures so far, and those of the others
abbrev pub invariant-loop-departure : goal.invariant-loop-departure
invariant-loop-departure l = l.shapes.items ++ flat_map (lost_shapes l.page) (drop l.departure-index l.departures) ≡ flat_map (lost_shapes l.page) l.departures
