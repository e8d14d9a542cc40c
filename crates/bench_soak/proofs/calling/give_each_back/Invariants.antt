use Rattle.std.proofs.Common.{vec_len}
use Rattle.bench_soak.proofs.calling.give_each_back.Given as goal

abbrev pub decreases-loop-hold : goal.decreases-loop-hold
decreases-loop-hold g l = vec_len l.holds
