use Rattle.std.proofs.Common.{vec_len}
use Rattle.bench_soak.proofs.pocket.Pocket.give_all_back.Given as goal

abbrev pub decreases-loop-held : goal.decreases-loop-held
decreases-loop-held g l = vec_len l.self.held
