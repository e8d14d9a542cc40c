use Rattle.std.proofs.Common.{vec_len}
use Rattle.nob_node.proofs.hold.forget_all.Given as goal

abbrev pub decreases-loop-hold : goal.decreases-loop-hold
decreases-loop-hold l = vec_len l.holds
