use Rattle.std.proofs.Common.{length}
use Rattle.nob_drawing_plan.proofs.marks.+listed_for.Given as goal

abbrev pub decreases-listed_for : goal.decreases-listed_for
decreases-listed_for l = length l.reps.now
