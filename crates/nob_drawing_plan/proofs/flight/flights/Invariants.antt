use Rattle.std.proofs.Common.{◌≡◌, ◌-◌, length, drop}
use Rattle.nob_drawing_plan.specs.Flights as spec
use Rattle.nob_drawing_plan.proofs.flight.flights.Given as goal

-- the departures, the arrows and the arrivals without an origin of the entries so far
abbrev pub invariant-loop-passed : goal.invariant-loop-passed
invariant-loop-passed l = (l.departures.items ≡ spec.departures (drop (length l.journal - l.passed) l.journal)) × (l.arrows.items ≡ spec.arrows (drop (length l.journal - l.passed) l.journal)) × (l.strays.items ≡ spec.strays (drop (length l.journal - l.passed) l.journal))
