use Rattle.nob_drawing_plan.proofs.Arriving.{have_arrows}
use Rattle.nob_drawing_plan.proofs.laws.each_has_its_arrow.Goals as goal

pub returns : goal.returns
returns c = have_arrows
