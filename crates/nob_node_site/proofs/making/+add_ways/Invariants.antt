use Rattle.std.proofs.Common.{length}
use Rattle.nob_node_site.proofs.making.+add_ways.Given as goal

abbrev pub decreases-add_ways : goal.decreases-add_ways
decreases-add_ways l = length l.ends.items
