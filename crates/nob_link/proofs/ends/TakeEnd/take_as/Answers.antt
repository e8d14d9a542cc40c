use Rattle.nob_link.proofs.Steps.{takes}
use Rattle.nob_link.proofs.ends.TakeEnd.take_as.Goals as goal

pub recv_as-requires-clause-rule : goal.recv_as-requires-clause-rule
recv_as-requires-clause-rule g c = (takes _ _ c.self.invariant.1, λ _ _ _ _. tt)
