use Rattle.nob_dispatch_lanes.proofs.Steps.{gets}
use Rattle.nob_dispatch_lanes.proofs.ends.LaneTake.get_as.Goals as goal

pub recv_as-requires-clause-rule : goal.recv_as-requires-clause-rule
recv_as-requires-clause-rule g c = (gets _ _ c.args.self.now.gets.0, λ _ _ _ _. tt)
