use Rattle.std.proofs.Common.{length}
use Rattle.nob_demo_scripts.proofs.log.+row_of.Given as goal

abbrev pub decreases-row_of : goal.decreases-row_of
decreases-row_of l = length l.rows.now
