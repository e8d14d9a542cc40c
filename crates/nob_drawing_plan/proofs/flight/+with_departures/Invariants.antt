use Rattle.std.proofs.Common.{length}
use Rattle.nob_drawing_plan.proofs.flight.+with_departures.Given as goal

abbrev pub decreases-with_departures : goal.decreases-with_departures
decreases-with_departures l = length l.frames.now
