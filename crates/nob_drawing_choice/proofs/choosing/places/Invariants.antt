use Rattle.std.proofs.Common.{◌≡◌, ◌≤◌, ◌-◌, length, drop}
use Rattle.nob_drawing_choice.specs.Choices as spec
use Rattle.nob_drawing_choice.proofs.choosing.places.Given as goal

-- how many of the entries so far are drawn, and their places
abbrev pub invariant-loop-passed : goal.invariant-loop-passed
invariant-loop-passed l =
    (l.count ≡ spec.count_chosen l.choice l.fault l.lives (drop (length l.journal - l.passed) l.journal))
    × (l.all.items ≡ spec.places l.choice l.fault l.lives (drop (length l.journal - l.passed) l.journal))
    × (l.count ≤ length l.all.items)
