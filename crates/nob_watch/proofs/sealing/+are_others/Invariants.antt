use Rattle.std.proofs.Common.{length}
use Rattle.nob_watch.proofs.sealing.+are_others.Given as goal

abbrev pub decreases-are_others : goal.decreases-are_others
decreases-are_others l = length l.peers.now
