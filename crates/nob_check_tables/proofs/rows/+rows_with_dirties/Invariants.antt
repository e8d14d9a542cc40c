use Rattle.std.proofs.Common.{length}
use Rattle.nob_check_tables.proofs.rows.+rows_with_dirties.Given as goal

abbrev pub decreases-rows_with_dirties : goal.decreases-rows_with_dirties
decreases-rows_with_dirties l = length l.reps.now
