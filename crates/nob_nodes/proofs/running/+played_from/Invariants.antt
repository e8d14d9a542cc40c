use Rattle.std.proofs.Common.{length}
use Rattle.nob_nodes.proofs.running.+played_from.Given as goal

abbrev pub decreases-played_from : goal.decreases-played_from
decreases-played_from g l = length l.posts.items
