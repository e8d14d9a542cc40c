use Rattle.std.proofs.Common.{length}
use Rattle.nob_space_state.proofs.taking_over.+times.Given as goal

abbrev pub decreases-times : goal.decreases-times
decreases-times l = length l.copies.now
