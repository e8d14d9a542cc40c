-- The peers of a seal, and what is said of them.
use Rattle.std.proofs.Common.{◌≡◌, ℕ, ◌≤◌, Bool, true, false, ◌&&◌, ◌==◌, nat_le, List, [], ◌∷◌, if◌then◌else◌, refl, subst, arith}
use Prim.Native.Nat.{suc}
use Rattle.std.proofs.lemmas.Bool.{and_parts}
use Rattle.std.proofs.lemmas.Bool.Decides.{nat_tests}
use Rattle.nob_model_types.specs.declared.tally.Tally.{Tally}
use Rattle.nob_model_types.specs.Sessions.{is_peer}
use Rattle.nob_model_history.specs.declared.history.History.{History}
use Rattle.nob_model.specs.Tallies.{tally}
use Rattle.nob_chain.specs.declared.seal.PeerSeal.{PeerSeal}
use Rattle.nob_chain.specs.Seals.{first_other, are_others}
use Rattle.nob_model_chains.specs.Sealing.{same_ending, is_said}
use Rattle.nob_watch.specs.Sealing.{ArePeers}

-- what is compared with a space's tally is compared with the history's words
pub said_by : (h : History) (p : PeerSeal) (t : Tally) → t ≡ tally p.peer h → (p.session == t.session && p.sent == t.sent && p.acted == t.acted && same_ending p.closed t.closed) ≡ is_said h p
said_by h p t is = λ i. p.session == (is i).session && p.sent == (is i).sent && p.acted == (is i).acted && same_ending p.closed (is i).closed

-- the next space that isn't the own one is a peer
peer_at : (own n k p : ℕ) → 1 ≤ k → (p == first_other own k) ≡ true → nat_le (first_other own k) n ≡ true → is_peer own n p ≡ true
peer_at own n k p low same high = by (k == own) refl
  where
    by : (b : Bool) → (k == own) ≡ b → is_peer own n p ≡ true
    by true its =
        let one : (p == suc k) ≡ true = subst (λ (t : Bool). (p == (if t then suc k else k)) ≡ true) its same in
        let most : nat_le (suc k) n ≡ true = subst (λ (t : Bool). nat_le (if t then suc k else k) n ≡ true) its high in
        grind (arith, nat_tests, one, most, its, low)
    by false other =
        let one : (p == k) ≡ true = subst (λ (t : Bool). (p == (if t then suc k else k)) ≡ true) other same in
        let most : nat_le k n ≡ true = subst (λ (t : Bool). nat_le (if t then suc k else k) n ≡ true) other high in
        grind (arith, nat_tests, one, most, other, low)

-- the peers that are due are peers
pub due_peers : (own n k : ℕ) (ps : List PeerSeal) → 1 ≤ k → are_others own n k ps ≡ true → ArePeers own n ps
due_peers own n k [] low due = tt
due_peers own n k (p ∷ ps) low due =
    let parts = and_parts (p.peer == first_other own k && nat_le (first_other own k) n) (are_others own n (suc (first_other own k)) ps) due in
    let first = and_parts (p.peer == first_other own k) (nat_le (first_other own k) n) parts.0 in
    (peer_at own n k p.peer low first.0 first.1, due_peers own n (suc (first_other own k)) ps (omega arith) parts.1)
