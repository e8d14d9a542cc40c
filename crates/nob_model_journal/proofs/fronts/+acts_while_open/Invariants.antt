use Rattle.std.proofs.Common.{length}
use Rattle.nob_model_journal.proofs.fronts.+acts_while_open.Given as goal

abbrev pub decreases-acts_while_open : goal.decreases-acts_while_open
decreases-acts_while_open l = length l.deeds.now
