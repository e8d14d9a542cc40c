use Rattle.std.proofs.Common.{length}
use Rattle.nob_drawing_plan.proofs.marks.+senders_in.Given as goal

abbrev pub decreases-senders_in : goal.decreases-senders_in
decreases-senders_in l = length l.deeds.now
