use Rattle.nob_link.proofs.Steps.{takes}
use Rattle.nob_link.proofs.ends.TakeEnd.try_take_as.Goals as goal

pub try_recv_as-requires-clause-rule : goal.try_recv_as-requires-clause-rule
try_recv_as-requires-clause-rule g c = (takes _ _ c.self.invariant.1, λ _ _ _ _. tt)
