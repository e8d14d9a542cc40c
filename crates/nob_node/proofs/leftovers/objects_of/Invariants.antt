use Rattle.std.proofs.Common.{◌≡◌, ◌++◌, length}
use Rattle.nob_node.specs.Leaving.{left_on}
use Rattle.nob_node.proofs.leftovers.objects_of.Given as goal

abbrev pub invariant-loop-index : goal.invariant-loop-index
invariant-loop-index g l = l.objects.items ++ left_on l.shelf ≡ left_on l.fn.shelf

abbrev pub decreases-loop-index : goal.decreases-loop-index
decreases-loop-index g l = length l.shelf
