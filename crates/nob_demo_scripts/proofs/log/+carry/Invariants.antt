use Rattle.std.proofs.Common.{length}
use Rattle.nob_demo_scripts.proofs.log.+carry.Given as goal

abbrev pub decreases-carry : goal.decreases-carry
decreases-carry l = length l.frames.now
