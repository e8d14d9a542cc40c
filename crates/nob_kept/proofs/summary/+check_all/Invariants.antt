use Rattle.std.proofs.Common.{length}
use Rattle.nob_kept.proofs.summary.+check_all.Given as goal

abbrev pub decreases-check_all : goal.decreases-check_all
decreases-check_all l = length l.seats.now
