use Rattle.nob_recall.proofs.Forgetting.{forgotten_are_past}
use Rattle.nob_recall.proofs.laws.forgotten_are_past.Goals as goal

pub returns : goal.returns
returns c = forgotten_are_past
