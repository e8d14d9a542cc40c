use Rattle.nob_drawing_plan.proofs.Arriving.{are_drawn}
use Rattle.nob_drawing_plan.proofs.laws.each_is_drawn.Goals as goal

pub returns : goal.returns
returns c = are_drawn
