use Rattle.std.proofs.Common.{vec_len}
use Rattle.test_methods.proofs.crowd.Member.call.Given as goal

abbrev pub decreases-loop-hold : goal.decreases-loop-hold
decreases-loop-hold g l = vec_len l.holds
