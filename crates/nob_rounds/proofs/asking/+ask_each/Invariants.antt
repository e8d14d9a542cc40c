use Rattle.std.proofs.Common.{length}
use Rattle.nob_rounds.proofs.asking.+ask_each.Given as goal

abbrev pub decreases-ask_each : goal.decreases-ask_each
decreases-ask_each l = length l.askings.now
