use Rattle.std.proofs.Common.{◌≡◌, ◌-◌, length, take}
use Rattle.nob_drawing_plan.specs.Flights as spec
use Rattle.nob_drawing_plan.proofs.flight.last_of.Given as goal

-- none of the departures so far is of the frame
abbrev pub invariant-loop-back : goal.invariant-loop-back
invariant-loop-back l = spec.last_of l.frame (take (length l.departures - l.back) l.departures) ≡ spec.last_of l.frame l.departures
