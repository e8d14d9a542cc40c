use Rattle.nob_drawing_plan.proofs.Standing.{tell}
use Rattle.nob_drawing_plan.proofs.laws.bars_tell.Goals as goal

pub returns : goal.returns
returns c = tell
