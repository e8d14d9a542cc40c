-- Which seals are those of a space behind its entries, whoever wrote them.
use Rattle.std.specs.Prelude.{◌≡◌, ℕ, Bool, true, ◌&&◌, List}
use Rattle.std.specs.List.{AllByRecursion}
use Rattle.nob_model_types.specs.Sessions.{is_peer}
use Rattle.nob_model_types.specs.declared.entry.Entry.{Entry}
use Rattle.nob_chain.specs.declared.seal.PeerSeal.{PeerSeal}
use Rattle.nob_chain.specs.declared.seal.Seal.{Seal}
use Rattle.nob_chain.specs.Seals.{are_others}
use Rattle.nob_model_chains.specs.Sealing.{is_right_seal}

-- each of these is said of a peer of space s among n
abbrev pub ArePeers : (s n : ℕ) → List PeerSeal → Type 0
ArePeers s n peers = AllByRecursion (λ peer. is_peer s n peer.peer ≡ true) peers

-- whether a seal has the peers that are due, and says what space s among n says of itself after these entries, the newest of which stands FIRST and has this stamp
abbrev pub is_whole_seal : (s n stamp : ℕ) → List Entry → Seal → Bool
is_whole_seal s n stamp L seal = are_others s n 1 seal.peers && is_right_seal s n stamp L seal
