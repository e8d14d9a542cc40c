use Rattle.std.proofs.Common.{length}
use Rattle.nob_model_session.proofs.end.+handed.Given as goal

abbrev pub decreases-handed : goal.decreases-handed
decreases-handed l = length l.calls.now
