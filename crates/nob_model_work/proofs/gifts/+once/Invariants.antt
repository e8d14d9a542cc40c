use Rattle.std.proofs.Common.{length}
use Rattle.nob_model_work.proofs.gifts.+once.Given as goal

abbrev pub decreases-once : goal.decreases-once
decreases-once l = length l.reps.now
