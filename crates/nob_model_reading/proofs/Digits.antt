-- A number doesn't begin as a delivery.
use Rattle.std.proofs.Common.{◌≡◌, ℕ, ◌+◌, ◌^◌, ◌<◌, ◌%◌, false, List, [], ◌∷◌, ◌++◌, arith, sym, ◌∙◌}
use Rattle.std.specs.Prelude.{◌==◌}
use Rattle.std.specs.List.{AllByRecursion}
use Rattle.std.specs.Fmt.{decimal}
use Rattle.std.proofs.lemmas.Fmt.{decimal_by_steps}
use Rattle.std.proofs.lemmas.Bool.Decides.{nat_tests, Decides-eqb}

-- no d is among the bytes
HasNone : List ℕ → Type 0
HasNone bytes = AllByRecursion (λ b. (b == 100) ≡ false) bytes

digit : (d : ℕ) → d < 10 → (48 + d == 100) ≡ false
digit d less = grind (arith, nat_tests)

one_behind : (front : List ℕ) (b : ℕ) → HasNone front → (b == 100) ≡ false → HasNone (front ++ b ∷ [])
unfolding HasNone
one_behind [] b none one = (one, tt)
one_behind (x ∷ front) b none one = (none.0, one_behind front b none.1 one)

number : (n : ℕ) → n < 2 ^ 64 → HasNone (decimal n)
unfolding HasNone
number n small = decimal_by_steps (λ (m : ℕ) (ds : List ℕ). HasNone ds) (λ m less. (digit m less, tt)) (λ m ds above none. one_behind ds (48 + m % 10) none (digit (m % 10) (omega arith))) n small

head_is : (a b : ℕ) (xs ys : List ℕ) → a ∷ xs ≡ b ∷ ys → a ≡ b
head_is a b xs ys e = cc

apart : (ds xs ys : List ℕ) → HasNone ds → 100 ∷ xs ≡ ds ++ 32 ∷ ys → ⊥
unfolding HasNone
apart [] xs ys none same = let e = head_is 100 32 _ _ same in omega (arith, e)
apart (d ∷ ds) xs ys none same = let equal = (Decides-eqb d 100).1 (sym (head_is 100 d _ _ same)) in let test = none.0 in absurd cc

pub no_number : (n : ℕ) (text xs ys : List ℕ) → n < 2 ^ 64 → text ≡ 100 ∷ xs → text ≡ decimal n ++ 32 ∷ ys → ⊥
no_number n text xs ys small word spelt = apart (decimal n) xs ys (number n small) (sym word ∙ spelt)
