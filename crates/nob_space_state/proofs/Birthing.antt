-- What births are, as the code judges them.
use Rattle.std.proofs.Common.{◌≡◌, ◌==◌, ℕ, ◌+◌, ◌-◌, ◌*◌, ◌≤◌, ◌<◌, Bool, true, false, inl, inr, ◌&&◌, nat_le, get_or, List, replicate, refl, sym, ap, subst, ◌∙◌, arith}
use Rattle.std.proofs.lemmas.Bool.{and_parts}
use Rattle.std.proofs.lemmas.List.{get_or-replicate}
use Rattle.std.proofs.lemmas.Bool.Decides.{nat_tests, Decides-eqb}
use Rattle.nob_ids.specs.Names.{most_spaces}
use Rattle.nob_model_types.specs.Sessions.{is_peer}
use Rattle.nob_model.specs.Right.{last_number}
use Rattle.nob_model_lives.specs.Births as lives
use Rattle.nob_model_lives.specs.Births.{CanHaveHad, IsInRange, IsNewBirth, IsLaterBirth}
use Rattle.nob_model_lives.proofs.Peers.{peer_low, peer_high}
use Rattle.nob_space_state.specs.declared.birth.Birth.{Birth}
use Rattle.nob_space_state.specs.Births.{life_of, is_within, AreNumbers, NoneWithin, IsFirstWithin, AreOpenedAnew}

after_and : (a b : Bool) → a ≡ true → (a && b) ≡ false → b ≡ false
after_and true b is none = none
after_and false b is none = cc

-- one place more, for anything that is said of peers below it
pub one_more : (s n p : ℕ) (P : ℕ → Type 0) → ((q : ℕ) → is_peer s n q ≡ true → q < p → P q) → (is_peer s n p ≡ true → P p) → (q : ℕ) → is_peer s n q ≡ true → q < p + 1 → P q
one_more s n p P before here q peer below =
    elim (q == p) as (λ b. q == p ≡ b → P q) [
      | true ↦ λ same.
          let at : q ≡ p = (Decides-eqb q p).0 same in
          subst P (sym at) (here (subst (λ r. is_peer s n r ≡ true) at peer))
      | false ↦ λ other. before q peer (grind (arith, nat_tests, other, below))
    ] refl

-- where it isn't a peer of which the number is within, it isn't within if it is a peer
pub not_within : (s n : ℕ) (birth : lives.Birth) (low high p : ℕ) → (is_peer s n p && is_within birth low high p) ≡ false → is_peer s n p ≡ true → is_within birth low high p ≡ false
not_within s n birth low high p none peer = after_and (is_peer s n p) (is_within birth low high p) peer none

-- below a number above n all peers are
pub all_below : (s n p : ℕ) (P : ℕ → Type 0) → n < p → ((q : ℕ) → is_peer s n q ≡ true → q < p → P q) → (q : ℕ) → is_peer s n q ≡ true → P q
all_below s n p P past below q peer = let high = peer_high s n q peer in below q peer (omega (arith, past, high))

-- the first that is found
pub found_first : (s n : ℕ) (birth : lives.Birth) (low high p : ℕ) → (is_peer s n p && is_within birth low high p) ≡ true → ((q : ℕ) → is_peer s n q ≡ true → q < p → is_within birth low high q ≡ false) → IsFirstWithin s n birth low high p
found_first s n birth low high p is before = record { peer = (and_parts (is_peer s n p) (is_within birth low high p) is).0; within = (and_parts (is_peer s n p) (is_within birth low high p) is).1; first = before }

-- ---- a new birth

one_left : (k : ℕ) → k ≤ 4294967295 → (nat_le 0 k && nat_le k 0) ≡ false → (nat_le 2 k && nat_le k 4294967295) ≡ false → k ≡ 1
one_left k small none more = grind (arith, nat_tests, small, none, more)

pub is_new_birth : (s n : ℕ) (birth : lives.Birth) → birth.indexes ≡ 0 → birth.calls ≡ 0 → birth.jobs ≡ 0 → AreNumbers s n birth → NoneWithin s n birth 0 0 → NoneWithin s n birth 2 4294967295 → IsNewBirth s n birth
is_new_birth s n birth indexes calls jobs numbers none more = record { indexes = indexes; calls = calls; jobs = jobs; sessions = λ p peer. one_left (birth.session p) (numbers p peer) (none p peer) (more p peer) }

no_one : (low high : ℕ) → (nat_le low 1 && nat_le 1 high) ≡ true → (1 < low → ⊥) × (high < 1 → ⊥)
no_one low high is = (λ far. absurd (grind (arith, nat_tests, is, far)), λ far. absurd (grind (arith, nat_tests, is, far)))

-- a session of another number than 1 is no new space's
pub not_new : (s n : ℕ) (birth : lives.Birth) (low high p : ℕ) → (nat_le low 1 && nat_le 1 high) ≡ false → IsFirstWithin s n birth low high p → IsNewBirth s n birth → ⊥
not_new s n birth low high p apart found new =
    let one : birth.session p ≡ 1 = new.sessions p found.peer in
    let within : (nat_le low 1 && nat_le 1 high) ≡ true = subst (λ k. (nat_le low k && nat_le k high) ≡ true) one found.within in
    let bad : true ≡ false = sym within ∙ apart in cc

-- the numbers of a new space's birth
pub default_is_new : (s n : ℕ) (birth : Birth) → n ≤ most_spaces → birth.indexes ≡ 0 → birth.calls ≡ 0 → birth.jobs ≡ 0 → birth.sessions ≡ replicate 32 1 → IsNewBirth s n (life_of birth)
default_is_new s n birth few indexes calls jobs sessions = record {
  indexes = indexes;
  calls = calls;
  jobs = jobs;
  sessions = λ p peer.
      let low = peer_low s n p peer in
      let high = peer_high s n p peer in
      let place : p - 1 < 32 = omega (arith, low, high, few) in
      ap (λ (numbers : List ℕ). get_or numbers (p - 1) 0) sessions ∙ get_or-replicate 32 (p - 1) 1 0 place;
}

-- ---- a later birth

opened_anew : (k : ℕ) → (nat_le 0 k && nat_le k 1) ≡ false → 2 ≤ k
opened_anew k none = grind (arith, nat_tests, none)

pub is_later_birth : (s n : ℕ) (birth : lives.Birth) → birth.indexes ≤ last_number → birth.calls ≤ last_number → birth.jobs ≤ last_number → AreNumbers s n birth → NoneWithin s n birth 0 1 → CanHaveHad s n birth → IsLaterBirth s n birth
is_later_birth s n birth indexes calls jobs numbers opened earlier = record { indexes = indexes; calls = calls; jobs = jobs; sessions = λ p peer. (opened_anew (birth.session p) (opened p peer), numbers p peer); earlier = earlier }
