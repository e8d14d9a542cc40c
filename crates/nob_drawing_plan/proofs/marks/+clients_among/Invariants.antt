use Rattle.std.proofs.Common.{length}
use Rattle.nob_drawing_plan.proofs.marks.+clients_among.Given as goal

abbrev pub decreases-clients_among : goal.decreases-clients_among
decreases-clients_among l = length l.spaces.now
