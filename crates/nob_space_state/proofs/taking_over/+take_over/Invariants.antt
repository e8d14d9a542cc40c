use Rattle.std.proofs.Common.{length}
use Rattle.nob_space_state.proofs.taking_over.+take_over.Given as goal

abbrev pub decreases-take_over : goal.decreases-take_over
decreases-take_over l = length l.copies.now
