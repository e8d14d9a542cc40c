use Rattle.std.proofs.Common.{length}
use Rattle.nob_space_items.proofs.dirties.+send_dirties.Given as goal

abbrev pub decreases-send_dirties : goal.decreases-send_dirties
decreases-send_dirties l = length l.dirties.items
