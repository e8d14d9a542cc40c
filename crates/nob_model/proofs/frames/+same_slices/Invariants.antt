use Rattle.std.proofs.Common.{length}
use Rattle.nob_model.proofs.frames.+same_slices.Given as goal

abbrev pub decreases-same_slices : goal.decreases-same_slices
decreases-same_slices l = length l.frames.now
