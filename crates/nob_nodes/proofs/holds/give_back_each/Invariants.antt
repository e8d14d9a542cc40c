use Rattle.std.proofs.Common.{vec_len}
use Rattle.nob_nodes.proofs.holds.give_back_each.Given as goal

abbrev pub decreases-loop-hold : goal.decreases-loop-hold
decreases-loop-hold g l = vec_len l.holds
