use Rattle.std.proofs.Common.{length}
use Rattle.nob_demo_spaces.proofs.playing.+summed.Given as goal

abbrev pub decreases-summed : goal.decreases-summed
decreases-summed l = length l.all.items
