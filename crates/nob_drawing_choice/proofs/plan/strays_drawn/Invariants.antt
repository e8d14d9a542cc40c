use Rattle.std.proofs.Common.{◌≡◌, ◌++◌, drop}
use Rattle.nob_drawing_choice.specs.Plans.{strays_drawn}
use Rattle.nob_drawing_choice.proofs.plan.strays_drawn.Given as goal

-- those that were found so far, and those among the others
abbrev pub invariant-loop-stray : goal.invariant-loop-stray
invariant-loop-stray l = l.found.items ++ strays_drawn l.all (drop l.stray-index l.strays) ≡ strays_drawn l.all l.strays
