use Rattle.nob_model_invariant.proofs.Judging.{verdicts}
use Rattle.nob_model_invariant.proofs.alike.verdicts.Goals as goal

pub returns : goal.returns
returns c = verdicts
