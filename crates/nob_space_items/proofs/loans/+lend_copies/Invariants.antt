use Rattle.std.proofs.Common.{length}
use Rattle.nob_space_items.proofs.loans.+lend_copies.Given as goal

abbrev pub decreases-lend_copies : goal.decreases-lend_copies
decreases-lend_copies l = length l.copies.now
