use Rattle.nob_dispatch_lanes.proofs.Steps.{forks}
use Rattle.nob_dispatch_lanes.proofs.making.getter.Goals as goal

pub another-pass-requires-clause-rule : goal.another-pass-requires-clause-rule
another-pass-requires-clause-rule g c = forks _ _ c.requires.parts
