use Rattle.std.proofs.Common.{◌≡◌, length}
use Rattle.nob_nodes.specs.Layouts.{AreLaidOut, configs_of}
use Rattle.nob_nodes.proofs.nodes.Nodes.new.Given as goal

abbrev pub invariant-loop-before : goal.invariant-loop-before
invariant-loop-before l = (length l.launches.items ≡ l.before) × AreLaidOut l.fn.layout 1 l.fn.count (configs_of l.launches.items)
