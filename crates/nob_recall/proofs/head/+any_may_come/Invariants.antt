use Rattle.std.proofs.Common.{length}
use Rattle.nob_recall.proofs.head.+any_may_come.Given as goal

abbrev pub decreases-any_may_come : goal.decreases-any_may_come
decreases-any_may_come l = length l.heads.now
