use Rattle.std.proofs.Common.{length}
use Rattle.nob_check_index.proofs.sources.+with_copies.Given as goal

abbrev pub decreases-with_copies : goal.decreases-with_copies
decreases-with_copies l = length l.reps.now
