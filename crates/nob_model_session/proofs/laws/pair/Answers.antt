use Rattle.nob_model_session.proofs.Fronts.{pair_law}
use Rattle.nob_model_session.proofs.laws.pair.Goals as goal

pub returns : goal.returns
returns c = pair_law
