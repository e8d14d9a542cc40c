use Rattle.nob_pickle.proofs.Whole.{no_front as law}
use Rattle.nob_pickle.proofs.laws.no_front.Goals as goal

pub returns : goal.returns
returns c = law
