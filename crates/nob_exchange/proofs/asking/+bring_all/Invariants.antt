use Rattle.std.proofs.Common.{length}
use Rattle.nob_exchange.proofs.asking.+bring_all.Given as goal

abbrev pub decreases-bring_all : goal.decreases-bring_all
decreases-bring_all l = length l.frames.now
