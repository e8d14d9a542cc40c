use Rattle.std.proofs.Common.{length}
use Rattle.nob_rounds.proofs.asking.+repeat_each.Given as goal

abbrev pub decreases-repeat_each : goal.decreases-repeat_each
decreases-repeat_each l = length l.askings.now
