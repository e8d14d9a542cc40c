use Rattle.std.proofs.Common.{length}
use Rattle.nob_node_site.proofs.making.+add_hands.Given as goal

abbrev pub decreases-add_hands : goal.decreases-add_hands
decreases-add_hands g l = length l.getters.items
