-- Numbers that are copied into an array of zeros, place by place.
use Rattle.std.proofs.Common.{◌≡◌, ℕ, ◌+◌, ◌-◌, ◌<◌, ◌≤◌, ◌==◌, nat_lt, true, false, List, length, get_or, replicate, refl, sym, ap, ◌∙◌, arith}
use lib.ListN.{set}
use Rattle.std.proofs.lemmas.List.{get_or-replicate, get_or_past, get_or-set_same, get_or-set_other, length-set}
use Rattle.std.proofs.lemmas.Bool.Decides.{nat_tests, Decides-eqb}
use Rattle.nob_host_space.specs.Births.{birth_with}

-- the first few numbers of an array are copied, and the others are 0
pub record AreCopied (sessions all : List ℕ) (place : ℕ) : Type 0 where
  pub few : place ≤ length sessions
  pub each : length all ≡ 32
  pub copied : (i : ℕ) → i < place → get_or all i 0 ≡ get_or sessions i 0
  pub rest : (i : ℕ) → place ≤ i → get_or all i 0 ≡ 0

abbrev pub zeros : List ℕ
zeros = replicate 32 0

zero_at : (i : ℕ) → get_or zeros i 0 ≡ 0
zero_at i = elim (nat_lt i 32) as (λ b. nat_lt i 32 ≡ b → get_or zeros i 0 ≡ 0) [
  | true ↦ λ low. get_or-replicate 32 i 0 0 (grind (arith, nat_tests, low))
  | false ↦ λ past. get_or_past zeros i 0 (let far : 32 ≤ i = grind (arith, nat_tests, past) in far)
] refl

-- none is at first
pub none_copied : (sessions all : List ℕ) → all ≡ zeros → AreCopied sessions all 0
none_copied sessions all is = record {
  few = omega arith;
  each = ap length is;
  copied = λ i below. absurd (omega (arith, below));
  rest = λ i from. ap (λ (xs : List ℕ). get_or xs i 0) is ∙ zero_at i;
}

-- one more
pub one_copied : (sessions all : List ℕ) (place number : ℕ) → length sessions ≤ 32 → place < length sessions → number ≡ get_or sessions place 0 → AreCopied sessions all place → AreCopied sessions (set all place number) (place + 1)
one_copied sessions all place number most inside is before = record {
  few = omega (arith, inside);
  each = length-set all place number ∙ before.each;
  copied = λ i below. elim (i == place) as (λ b. i == place ≡ b → get_or (set all place number) i 0 ≡ get_or sessions i 0) [
    | true ↦ λ same.
        let at : i ≡ place = (Decides-eqb i place).0 same in
        let within : place < length all = omega (arith, inside, most, before.each) in
        ap (λ k. get_or (set all place number) k 0) at ∙ get_or-set_same all place number 0 within ∙ is ∙ ap (λ k. get_or sessions k 0) (sym at)
    | false ↦ λ differs.
        let sooner : i < place = grind (arith, nat_tests, below, differs) in
        get_or-set_other all place i number 0 (λ same. omega (arith, same, sooner)) ∙ before.copied i sooner
  ] refl;
  rest = λ i from. get_or-set_other all place i number 0 (λ same. omega (arith, same, from)) ∙ before.rest i (omega (arith, from));
}

-- once all are, what is read of the array is what is read of the numbers
all_copied : (sessions all : List ℕ) (place : ℕ) → length sessions ≤ place → AreCopied sessions all place → (i : ℕ) → get_or all i 0 ≡ get_or sessions i 0
all_copied sessions all place past copied i = elim (nat_lt i place) as (λ b. nat_lt i place ≡ b → get_or all i 0 ≡ get_or sessions i 0) [
  | true ↦ λ low. copied.copied i (grind (arith, nat_tests, low))
  | false ↦ λ high.
      let from : place ≤ i = grind (arith, nat_tests, high) in
      copied.rest i from ∙ sym (get_or_past sessions i 0 (omega (arith, past, from)))
] refl

-- so the birth is that of the numbers
pub copied_birth : (indexes calls jobs : ℕ) (sessions all : List ℕ) (place : ℕ) → length sessions ≤ place → AreCopied sessions all place → birth_with indexes calls jobs all ≡ birth_with indexes calls jobs sessions
copied_birth indexes calls jobs sessions all place past copied = λ i. record { indexes = indexes; calls = calls; jobs = jobs; session = λ p. all_copied sessions all place past copied (p - 1) i }
