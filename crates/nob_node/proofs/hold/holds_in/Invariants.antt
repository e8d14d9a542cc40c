use Rattle.std.proofs.Common.{◌-◌, length}
use Rattle.nob_node.specs.Holds.{counted_in}
use Rattle.nob_node.proofs.Holdings.{AreHeld}
use Rattle.nob_node.proofs.hold.holds_in.Given as goal

abbrev pub invariant-loop-rep : goal.invariant-loop-rep
invariant-loop-rep l = AreHeld l.holds.items (counted_in l.value)

abbrev pub decreases-loop-rep : goal.decreases-loop-rep
decreases-loop-rep l = length (counted_in l.value) - length l.holds.items
