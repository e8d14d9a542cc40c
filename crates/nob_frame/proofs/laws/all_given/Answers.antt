use Rattle.nob_frame.proofs.Runs.{all_given as the_law}
use Rattle.nob_frame.proofs.laws.all_given.Goals as goal

pub returns : goal.returns
returns c = the_law
