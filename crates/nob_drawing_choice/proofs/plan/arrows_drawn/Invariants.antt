use Rattle.std.proofs.Common.{◌≡◌, ◌++◌, drop}
use Rattle.nob_drawing_choice.specs.Plans.{arrows_drawn}
use Rattle.nob_drawing_choice.proofs.plan.arrows_drawn.Given as goal

-- those that were found so far, and those among the others
abbrev pub invariant-loop-arrow : goal.invariant-loop-arrow
invariant-loop-arrow l = l.found.items ++ arrows_drawn l.all (drop l.arrow-index l.arrows) ≡ arrows_drawn l.all l.arrows
