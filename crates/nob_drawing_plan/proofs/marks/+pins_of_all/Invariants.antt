use Rattle.std.proofs.Common.{length}
use Rattle.nob_drawing_plan.proofs.marks.+pins_of_all.Given as goal

abbrev pub decreases-pins_of_all : goal.decreases-pins_of_all
decreases-pins_of_all l = length l.sent_items.now
