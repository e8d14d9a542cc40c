use Rattle.std.proofs.Common.{length}
use Rattle.nob_watch.proofs.members.shut_all.Given as goal

abbrev pub decreases-loop-space : goal.decreases-loop-space
decreases-loop-space l = length l.spaces.items
