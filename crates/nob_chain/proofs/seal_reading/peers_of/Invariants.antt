use Rattle.std.proofs.Common.{length}
use Rattle.nob_chain.proofs.ReadPeers.{FoundPeers, OnlyPeers}
use Rattle.nob_chain.proofs.seal_reading.peers_of.Given as goal

-- what was read and what is left are all
abbrev pub invariant-loop-left : goal.invariant-loop-left
invariant-loop-left l = FoundPeers l.text l.peers.items l.left × OnlyPeers l.text l.peers.items l.left

abbrev pub decreases-loop-left : goal.decreases-loop-left
decreases-loop-left l = length l.left
