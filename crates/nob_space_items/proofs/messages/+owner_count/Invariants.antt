use Rattle.std.proofs.Common.{length}
use Rattle.nob_space_items.proofs.messages.+owner_count.Given as goal

abbrev pub decreases-owner_count : goal.decreases-owner_count
decreases-owner_count l = length l.reps.now
