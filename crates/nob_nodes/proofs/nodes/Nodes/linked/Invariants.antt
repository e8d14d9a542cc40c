use Rattle.std.proofs.Common.{◌≡◌}
use Rattle.nob_nodes.specs.Layouts.{AreMade}
use Rattle.nob_nodes.proofs.nodes.Nodes.linked.Given as goal

abbrev pub invariant-loop-first : goal.invariant-loop-first
invariant-loop-first l = (l.nodes.layout ≡ l.fn.layout) × AreMade l.fn.layout l.fn.count l.nodes

abbrev pub invariant-loop-second : goal.invariant-loop-second
invariant-loop-second l = (l.nodes.layout ≡ l.fn.layout) × AreMade l.fn.layout l.fn.count l.nodes
