use Rattle.std.proofs.Common.{◌≡◌, ◌++◌, drop}
use Rattle.nob_drawing_choice.specs.Plans.{bars_drawn}
use Rattle.nob_drawing_choice.proofs.plan.bars_drawn.Given as goal

-- those that were found so far, and those among the others
abbrev pub invariant-loop-bar : goal.invariant-loop-bar
invariant-loop-bar l = l.found.items ++ bars_drawn l.choice l.all (drop l.bar-index l.bars) ≡ bars_drawn l.choice l.all l.bars
