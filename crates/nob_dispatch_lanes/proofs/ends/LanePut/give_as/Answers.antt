use Rattle.nob_dispatch_lanes.proofs.Steps.{gives}
use Rattle.nob_dispatch_lanes.proofs.ends.LanePut.give_as.Goals as goal

pub send_as-requires-clause-rule : goal.send_as-requires-clause-rule
send_as-requires-clause-rule g c = (gives _ _ _ _ c.args.self.now.few c.args.self.now.gives.0, λ _ _ _ _. tt)
