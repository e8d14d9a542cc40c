use Rattle.std.proofs.Common.{length}
use Rattle.nob_rounds.proofs.askings.+ends_of_each.Given as goal

abbrev pub decreases-ends_of_each : goal.decreases-ends_of_each
decreases-ends_of_each l = length l.spaces.now
