use Rattle.std.proofs.Common.{◌≡◌, ◌++◌, drop}
use Rattle.nob_drawing_plan.specs.Flights.{lost}
use Rattle.nob_drawing_plan.proofs.flight.lost.Given as goal

-- the departures so far from which nothing arrives, and those of the others
abbrev pub invariant-loop-departure : goal.invariant-loop-departure
invariant-loop-departure l = l.found.items ++ lost l.arrows (drop l.departure-index l.departures) ≡ lost l.arrows l.departures
