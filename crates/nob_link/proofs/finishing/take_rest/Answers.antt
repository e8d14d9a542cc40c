use Rattle.nob_link.proofs.Steps.{takes_rest, knows_rest}
use Rattle.nob_link.proofs.finishing.take_rest.Goals as goal

pub try_recv_as-requires-clause-rule : goal.try_recv_as-requires-clause-rule
try_recv_as-requires-clause-rule g c =
    let kept = c.loop.invariant in (takes_rest _ _ kept.1 kept.2, knows_rest _ _ kept.1 kept.2)
