use Rattle.nob_frame.proofs.Runs.{any_cut as the_law}
use Rattle.nob_frame.proofs.laws.any_cut.Goals as goal

pub returns : goal.returns
returns c = the_law
