use Rattle.std.proofs.Common.{◌≡◌, ◌++◌, drop}
use Rattle.nob_drawing_choice.specs.Plans.{departures_drawn}
use Rattle.nob_drawing_choice.proofs.plan.departures_drawn.Given as goal

-- those that were found so far, and those among the others
abbrev pub invariant-loop-departure : goal.invariant-loop-departure
invariant-loop-departure l = l.found.items ++ departures_drawn l.all (drop l.departure-index l.departures) ≡ departures_drawn l.all l.departures
