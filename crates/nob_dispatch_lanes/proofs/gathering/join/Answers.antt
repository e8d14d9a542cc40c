use Rattle.nob_dispatch_lanes.proofs.Steps.{merges}
use Rattle.nob_dispatch_lanes.proofs.gathering.join.Goals as goal

pub absorb-requires-clause-rule : goal.absorb-requires-clause-rule
absorb-requires-clause-rule g c = merges _ _ _ _ c.requires.some
