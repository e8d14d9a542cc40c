use Rattle.std.proofs.Common.{length}
use Rattle.nob_rounds.proofs.askings.+releases.Given as goal

abbrev pub decreases-releases : goal.decreases-releases
decreases-releases l = length l.spaces.now
