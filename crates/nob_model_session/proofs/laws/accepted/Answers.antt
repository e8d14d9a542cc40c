use Rattle.nob_model_session.proofs.Fronts.{accepted_law}
use Rattle.nob_model_session.proofs.laws.accepted.Goals as goal

pub returns : goal.returns
returns c = accepted_law
