use Rattle.std.proofs.Common.{◌≡◌, ◌+◌, ◌<◌, ◌-◌, length}
use Rattle.nob_pins.specs.Peers.{all_pinned, AreByPeer, KeepsRooms}
use Rattle.nob_pins.proofs.table.fill.Given as goal

abbrev pub invariant-loop-alloc : goal.invariant-loop-alloc
invariant-loop-alloc l = (all_pinned l.peers.items ≡ all_pinned l.initial.peers.items) × (AreByPeer l.initial.peers.items → AreByPeer l.peers.items) × KeepsRooms l.initial.peers.items l.peers.items × (l.fn.number < length l.initial.peers.items → l.peers.items ≡ l.initial.peers.items)

abbrev pub decreases-loop-alloc : goal.decreases-loop-alloc
decreases-loop-alloc l = l.fn.number + 1 - length l.peers.items
