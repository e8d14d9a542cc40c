use Rattle.std.proofs.Common.{length}
use Rattle.nob_recall.proofs.memory.+make_memory.Given as goal

abbrev pub decreases-make_memory : goal.decreases-make_memory
decreases-make_memory l = length l.journal.now
