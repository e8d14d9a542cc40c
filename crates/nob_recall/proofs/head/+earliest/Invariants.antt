use Rattle.std.proofs.Common.{length}
use Rattle.nob_recall.proofs.head.+earliest.Given as goal

abbrev pub decreases-earliest : goal.decreases-earliest
decreases-earliest l = length l.heads.now
