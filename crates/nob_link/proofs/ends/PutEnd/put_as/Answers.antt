use Rattle.nob_link.proofs.Steps.{puts, holds_no_more}
use Rattle.nob_link.proofs.ends.PutEnd.put_as.Goals as goal

pub send_as-requires-clause-rule : goal.send_as-requires-clause-rule
send_as-requires-clause-rule g c = (puts _ _ _ _ c.self.invariant.2 c.self.invariant.1, holds_no_more _ _ c.self.invariant.1)
