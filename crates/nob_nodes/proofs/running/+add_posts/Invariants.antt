use Rattle.std.proofs.Common.{length}
use Rattle.nob_nodes.proofs.running.+add_posts.Given as goal

abbrev pub decreases-add_posts : goal.decreases-add_posts
decreases-add_posts g l = length l.launches.items
