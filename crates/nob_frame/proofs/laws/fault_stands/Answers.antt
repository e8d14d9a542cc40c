use Rattle.nob_frame.proofs.Runs.{fault_stands as the_law}
use Rattle.nob_frame.proofs.laws.fault_stands.Goals as goal

pub returns : goal.returns
returns c = the_law
