use Rattle.std.proofs.Common.{◌≡◌, ◌-◌, length, drop}
use Rattle.nob_drawing.specs.Layout as spec
use Rattle.nob_drawing.proofs.entries.entries_shapes.Given as goal

-- those of the entries so far
abbrev pub invariant-loop-passed : goal.invariant-loop-passed
invariant-loop-passed l = l.shapes.items ≡ spec.entries_shapes l.page l.places l.lives (drop (length l.journal - l.passed) l.journal)
