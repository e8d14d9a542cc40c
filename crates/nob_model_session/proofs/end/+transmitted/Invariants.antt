use Rattle.std.proofs.Common.{length}
use Rattle.nob_model_session.proofs.end.+transmitted.Given as goal

abbrev pub decreases-transmitted : goal.decreases-transmitted
decreases-transmitted l = length l.calls.now
