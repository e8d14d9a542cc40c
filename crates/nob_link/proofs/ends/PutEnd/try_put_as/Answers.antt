use Rattle.nob_link.proofs.Steps.{puts, holds_no_more}
use Rattle.nob_link.proofs.ends.PutEnd.try_put_as.Goals as goal

pub try_send_as-requires-clause-rule : goal.try_send_as-requires-clause-rule
try_send_as-requires-clause-rule g c = (puts _ _ _ _ c.self.invariant.2 c.self.invariant.1, holds_no_more _ _ c.self.invariant.1)
