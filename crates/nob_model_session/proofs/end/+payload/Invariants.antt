use Rattle.std.proofs.Common.{length}
use Rattle.nob_model_session.proofs.end.+payload.Given as goal

abbrev pub decreases-payload : goal.decreases-payload
decreases-payload l = length l.calls.now
