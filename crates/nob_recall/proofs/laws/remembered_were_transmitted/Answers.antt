use Rattle.nob_recall.proofs.Forgetting.{remembered_were_transmitted}
use Rattle.nob_recall.proofs.laws.remembered_were_transmitted.Goals as goal

pub returns : goal.returns
returns c = remembered_were_transmitted
