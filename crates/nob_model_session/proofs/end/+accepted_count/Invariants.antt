use Rattle.std.proofs.Common.{length}
use Rattle.nob_model_session.proofs.end.+accepted_count.Given as goal

abbrev pub decreases-accepted_count : goal.decreases-accepted_count
decreases-accepted_count l = length l.calls.now
