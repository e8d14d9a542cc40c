-- `mask_of` goes on with the tests behind the first.
use Rattle.std.proofs.Common.{length}
use Rattle.nob_host_space.proofs.bits.+mask_of.Given as goal

abbrev pub decreases-mask_of : goal.decreases-mask_of
decreases-mask_of l = length l.tests.now
