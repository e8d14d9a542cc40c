use Rattle.nob_link.proofs.Steps.{merges}
use Rattle.nob_link.proofs.finishing.finish.Goals as goal

pub absorb-requires-clause-rule : goal.absorb-requires-clause-rule
absorb-requires-clause-rule g c = merges _ _ _ _ c.into_parts-sender.ensures.puts c.into_parts-receiver.ensures.takes
