use Rattle.std.proofs.Common.{length}
use Rattle.nob_node.proofs.leftovers.+end_hands.Given as goal

abbrev pub decreases-end_hands : goal.decreases-end_hands
decreases-end_hands g l = length l.hands.items
