use Rattle.std.proofs.Common.{◌≡◌, [], vec_len}
use Rattle.nob_pins.specs.Peers.{all_pinned}
use Rattle.nob_pins.proofs.table.end_all.Given as goal

abbrev pub invariant-loop-row : goal.invariant-loop-row
invariant-loop-row l = all_pinned l.left.items ≡ []

abbrev pub decreases-loop-row : goal.decreases-loop-row
decreases-loop-row l = vec_len l.left
