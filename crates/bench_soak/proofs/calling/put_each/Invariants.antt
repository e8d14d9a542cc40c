use Rattle.std.proofs.Common.{vec_len}
use Rattle.bench_soak.proofs.calling.put_each.Given as goal

abbrev pub decreases-loop-hold : goal.decreases-loop-hold
decreases-loop-hold g l = vec_len l.holds
