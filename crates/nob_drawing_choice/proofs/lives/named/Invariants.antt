use Rattle.std.proofs.Common.{◌≡◌, ◌-◌, [], length, drop}
use Rattle.nob_drawing_choice.specs.Lives as spec
use Rattle.nob_drawing_choice.proofs.lives.named.Given as goal

-- what the entries so far name
abbrev pub invariant-loop-passed : goal.invariant-loop-passed
invariant-loop-passed l = l.lives.items ≡ spec.lives_of [] (drop (length l.journal - l.passed) l.journal)
