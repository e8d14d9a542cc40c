use Rattle.std.proofs.Common.{◌≡◌, take}
use Rattle.nob_drawing_choice.specs.Lives as spec
use Rattle.nob_drawing_choice.proofs.lives.lives_of.Given as goal

-- those by the bars so far
abbrev pub invariant-loop-bar : goal.invariant-loop-bar
invariant-loop-bar l = l.lives.items ≡ spec.lives_of (take l.bar-index l.bars) l.journal
