use Rattle.nob_dispatch_lanes.proofs.Steps.{gets}
use Rattle.nob_dispatch_lanes.proofs.ends.LaneTake.try_get_as.Goals as goal

pub try_recv_as-requires-clause-rule : goal.try_recv_as-requires-clause-rule
try_recv_as-requires-clause-rule g c = (gets _ _ c.args.self.now.gets.0, λ _ _ _ _. tt)
