use Rattle.std.proofs.Common.{length}
use Rattle.nob_dispatch_lanes.proofs.gathering.+join_getters.Given as goal

abbrev pub decreases-join_getters : goal.decreases-join_getters
decreases-join_getters g l = length l.ends.items
