use Rattle.nob_frame.proofs.Splitting.{one_split as the_law}
use Rattle.nob_frame.proofs.laws.one_split.Goals as goal

pub returns : goal.returns
returns c = the_law
