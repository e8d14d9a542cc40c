use Rattle.std.proofs.Common.{vec_len}
use Rattle.nob_drawing_plan.proofs.passing.+taken.Given as goal

abbrev pub decreases-taken : goal.decreases-taken
decreases-taken l = vec_len l.ledgers
