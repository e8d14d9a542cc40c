use Rattle.std.proofs.Common.{length}
use Rattle.nob_model_acting.proofs.candidates.+find_free.Given as goal

abbrev pub decreases-find_free : goal.decreases-find_free
decreases-find_free l = length l.messages.now
