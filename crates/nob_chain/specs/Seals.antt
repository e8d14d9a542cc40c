-- The one spelling of each seal, and which peers are due in one.
use Rattle.std.specs.Prelude.{◌≡◌, ◌==◌, ◌&&◌, ℕ, suc, ◌<◌, ◌^◌, Bool, nat_le, nat_lt, true, List, [], ◌∷◌, ◌++◌, codes, if◌then◌else◌, Option, Some, None}
use Rattle.std.specs.List.{AllByRecursion}
use Rattle.std.specs.Fmt.{decimal}
use Rattle.nob_ids.specs.Names.{IsSpace}
use Rattle.nob_ids.specs.Reasons.{reason_number}
use Rattle.nob_ids.specs.declared.reason.Reason.{Reason}
use Rattle.nob_chain.specs.declared.seal.PeerSeal.{PeerSeal}
use Rattle.nob_chain.specs.declared.seal.Seal.{Seal}

-- whether this end of a session is open, or the reason for which it was closed, and what stands behind it
abbrev pub ending_text : Option Reason → List ℕ → List ℕ
ending_text None rest = codes " open" ++ rest
ending_text (Some reason) rest = codes " closed " ++ (decimal (reason_number reason) ++ rest)

-- what is sealed of the session with a peer, and what stands behind it
abbrev pub peer_text : PeerSeal → List ℕ → List ℕ
peer_text peer rest =
    codes " peer " ++ (decimal peer.peer ++ (codes " session " ++ (decimal peer.session ++ (codes " sent " ++ (decimal peer.sent ++ (codes " acted " ++ (decimal peer.acted ++ ending_text peer.closed rest)))))))

-- the same of peers, one after the other
abbrev pub peers_text : List PeerSeal → List ℕ
peers_text [] = []
peers_text (peer ∷ peers) = peer_text peer (peers_text peers)

-- a seal: the stamp, the number of live objects, and each peer
abbrev pub seal_text : Seal → List ℕ
seal_text seal = codes "seal " ++ (decimal seal.stamp ++ (codes " live " ++ (decimal seal.live ++ peers_text seal.peers)))

-- this space, or the one behind it where it is the own one
abbrev pub first_other : ℕ → ℕ → ℕ
first_other own space = if space == own then suc space else space

-- whether peers are all spaces from this one to n but the own one, rising
abbrev pub are_others : ℕ → ℕ → ℕ → List PeerSeal → Bool
are_others own n space [] = nat_lt n (first_other own space)
are_others own n space (peer ∷ peers) = peer.peer == first_other own space && nat_le (first_other own space) n && are_others own n (suc (first_other own space)) peers

-- the peers of a seal are those that are due in a chain of this space, of n: each space from 1 to n but this one, rising
abbrev pub IsDue : ℕ → ℕ → Seal → Type 0
IsDue own n seal = are_others own n 1 seal.peers ≡ true

-- a peer and numbers in their ranges
pub record IsPeerSeal (peer : PeerSeal) : Type 0 where
  pub named : IsSpace peer.peer
  pub session : peer.session < 2 ^ 32
  pub sent : peer.sent < 2 ^ 64
  pub acted : peer.acted < 2 ^ 64

-- a seal that a text can spell, of a chain of this space, of n
pub record IsSeal (own n : ℕ) (seal : Seal) : Type 0 where
  pub stamp : seal.stamp < 2 ^ 64
  pub live : seal.live < 2 ^ 64
  pub peers : AllByRecursion IsPeerSeal seal.peers
  pub due : IsDue own n seal
