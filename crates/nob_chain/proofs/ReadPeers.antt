-- Peers of a seal that were read so far, and those that are left.
use Rattle.std.proofs.Common.{◌≡◌, ℕ, List, [], ◌∷◌, ◌++◌, refl, sym, ap, ◌∙◌, append_assoc}
use Rattle.std.specs.List.{AllByRecursion}
use Rattle.std.proofs.lemmas.List.{append-nil}
use Rattle.nob_model_text.specs.Fronts.{Stops}
use Rattle.nob_model_text.specs.declared.unread.Unread.{Unread}
use Rattle.nob_model_text.specs.declared.unread.Unread.TheVariants.{OutOfMemory}
use Rattle.nob_chain.specs.declared.seal.PeerSeal.{PeerSeal}
use Rattle.nob_chain.specs.Seals.{peer_text, peers_text, IsPeerSeal}
use Rattle.nob_chain.proofs.OneLine.{stops_peers}

-- peers, and what stands behind them
abbrev pub peers_then : List PeerSeal → List ℕ → List ℕ
peers_then [] rest = rest
peers_then (peer ∷ peers) rest = peer_text peer (peers_then peers rest)

-- the text is what was read and the rest
abbrev pub FoundPeers : List ℕ → List PeerSeal → List ℕ → Type 0
FoundPeers text done left = AllByRecursion IsPeerSeal done × (text ≡ peers_then done left)

-- whatever the text spells is what was read and something that the rest spells
abbrev pub OnlyPeers : List ℕ → List PeerSeal → List ℕ → Type 0
OnlyPeers text done left = (peers : List PeerSeal) → AllByRecursion IsPeerSeal peers → text ≡ peers_text peers → (others : List PeerSeal) × (peers ≡ done ++ others) × AllByRecursion IsPeerSeal others × (left ≡ peers_text others)

all_push : (done : List PeerSeal) (p : PeerSeal) → AllByRecursion IsPeerSeal done → IsPeerSeal p → AllByRecursion IsPeerSeal (done ++ p ∷ [])
all_push [] p all one = (one, tt)
all_push (x ∷ done) p all one = (all.0, all_push done p all.1 one)

then_push : (done : List PeerSeal) (p : PeerSeal) (after : List ℕ) → peers_then done (peer_text p after) ≡ peers_then (done ++ p ∷ []) after
then_push [] p after = refl
then_push (x ∷ done) p after = ap (λ (bs : List ℕ). peer_text x bs) (then_push done p after)

then_none : (ps : List PeerSeal) → peers_then ps [] ≡ peers_text ps
then_none [] = refl
then_none (p ∷ ps) = ap (λ (bs : List ℕ). peer_text p bs) (then_none ps)

pub peers_next : (text left after : List ℕ) (done : List PeerSeal) (p : PeerSeal) → IsPeerSeal p → left ≡ peer_text p after → FoundPeers text done left → FoundPeers text (done ++ p ∷ []) after
peers_next text left after done p is spelt so_far = (all_push done p so_far.0 is, so_far.1 ∙ ap (λ (bs : List ℕ). peers_then done bs) spelt ∙ then_push done p after)

pub peers_end : (text left : List ℕ) (done : List PeerSeal) → left ≡ [] → FoundPeers text done left → text ≡ peers_text done
peers_end text left done empty so_far = so_far.1 ∙ ap (λ (bs : List ℕ). peers_then done bs) empty ∙ then_none done

others_next : (peers done new others : List PeerSeal) (left after : List ℕ) → (left ≡ [] → ⊥) → ((p : PeerSeal) (rest : List ℕ) → IsPeerSeal p → Stops rest → left ≡ peer_text p rest → (new ≡ done ++ p ∷ []) × (after ≡ rest))
    → peers ≡ done ++ others → AllByRecursion IsPeerSeal others → left ≡ peers_text others → (more : List PeerSeal) × (peers ≡ new ++ more) × AllByRecursion IsPeerSeal more × (after ≡ peers_text more)
others_next peers done new [] left after some read all are is = absurd (some is)
others_next peers done new (u ∷ more) left after some read all are is =
    let r = read u (peers_text more) are.0 (stops_peers more) is in
    (more, all ∙ sym (append_assoc done (u ∷ []) more) ∙ ap (λ (ps : List PeerSeal). ps ++ more) (sym r.0), are.1, r.1)

pub only_next : (text left after : List ℕ) (done new : List PeerSeal) → (left ≡ [] → ⊥) → ((p : PeerSeal) (rest : List ℕ) → IsPeerSeal p → Stops rest → left ≡ peer_text p rest → (new ≡ done ++ p ∷ []) × (after ≡ rest)) → OnlyPeers text done left → OnlyPeers text new after
only_next text left after done new some read so_far peers are spelt =
    let r = so_far peers are spelt in
    others_next peers done new r.0 left after some read r.1 r.2 r.3

nothing : (b : ℕ) (ys : List ℕ) → [] ≡ b ∷ ys → ⊥
nothing b ys e = cc

no_more : (others : List PeerSeal) → [] ≡ peers_text others → others ≡ []
no_more [] is = refl
no_more (u ∷ others) is = absurd (nothing _ _ is)

pub only_end : (text left : List ℕ) (done : List PeerSeal) → left ≡ [] → OnlyPeers text done left → (peers : List PeerSeal) → AllByRecursion IsPeerSeal peers → text ≡ peers_text peers → done ≡ peers
only_end text left done empty so_far peers are spelt =
    let r = so_far peers are spelt in
    sym (r.1 ∙ ap (λ (us : List PeerSeal). done ++ us) (no_more r.0 (sym empty ∙ r.3)) ∙ append-nil done)

-- where nothing is read, memory ran out
pub no_peer : (others : List PeerSeal) (left : List ℕ) (e : Unread) → (left ≡ [] → ⊥) → AllByRecursion IsPeerSeal others → left ≡ peers_text others
    → ((p : PeerSeal) (rest : List ℕ) → IsPeerSeal p → Stops rest → left ≡ peer_text p rest → e ≡ OutOfMemory) → e ≡ OutOfMemory
no_peer [] left e some are is unread = absurd (some is)
no_peer (u ∷ others) left e some are is unread = unread u (peers_text others) are.0 (stops_peers others) is
