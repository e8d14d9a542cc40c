use Rattle.std.proofs.Common.{length}
use Rattle.nob_drawing_plan.proofs.bar.+bars_read.Given as goal

abbrev pub decreases-bars_read : goal.decreases-bars_read
decreases-bars_read l = length l.journal.now
