use Rattle.std.proofs.Common.{length}
use Rattle.nob_drawing_plan.proofs.bar.+with_begun.Given as goal

abbrev pub decreases-with_begun : goal.decreases-with_begun
decreases-with_begun l = length l.marks.now
