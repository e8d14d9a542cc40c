use Rattle.std.proofs.Common.{length}
use Rattle.nob_recall.proofs.heard.+make_heard.Given as goal

abbrev pub decreases-make_heard : goal.decreases-make_heard
decreases-make_heard l = length l.journal.now
