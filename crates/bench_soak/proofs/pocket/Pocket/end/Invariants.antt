use Rattle.std.proofs.Common.{vec_len}
use Rattle.bench_soak.proofs.pocket.Pocket.end.Given as goal

abbrev pub decreases-loop-last : goal.decreases-loop-last
decreases-loop-last g l = vec_len l.held
