use Rattle.std.proofs.Common.{length}
use Rattle.nob_dispatch_lanes.proofs.gathering.+join_givers.Given as goal

abbrev pub decreases-join_givers : goal.decreases-join_givers
decreases-join_givers g l = length l.ends.items
