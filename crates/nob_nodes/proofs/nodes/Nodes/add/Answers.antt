use Rattle.std.proofs.Common.{ap, ◌∙◌}
use Rattle.nob_nodes.specs.declared.launch.Launch.{Launch}
use Rattle.nob_nodes.proofs.Laid.{same_configs}
use Rattle.nob_nodes.proofs.nodes.Nodes.add.Goals as goal

-- the node that has ends more runs as it did
pub returns-clause-alike : goal.returns-clause-alike
returns-clause-alike c = same_configs c.args.self.now.launches.items c.place.result c.add.new.self c.in_ok-launch.launch.now (c.add.ensures ∙ ap (λ (l : Launch). l.config) c.in_ok-launch.ensures.value)
