use Rattle.std.proofs.Common.{length}
use Rattle.nob_model_session.proofs.end.+ticks.Given as goal

abbrev pub decreases-ticks : goal.decreases-ticks
decreases-ticks l = length l.calls.now
