use Rattle.std.proofs.Common.{length}
use Rattle.nob_model_acting.proofs.candidates.+find_resolved.Given as goal

abbrev pub decreases-find_resolved : goal.decreases-find_resolved
decreases-find_resolved l = length l.messages.now
