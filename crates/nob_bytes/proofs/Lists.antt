-- Lists of bytes, and runs of them.
use Rattle.std.proofs.Common.{◌≡◌, ℕ, ◌+◌, ◌<◌, ◌≤◌, List, ◌++◌, get_or, take, drop, ap, ◌∙◌, arith, inl, inr}
use Rattle.std.proofs.lemmas.Bool.{cases_lt}
use Rattle.std.proofs.lemmas.List.{length-take, get_or-drop, get_or-take, get_or_past, take-append-drop, drop-drop, take-take, drop-take}

-- each is a byte
abbrev pub IsBytes : List ℕ → Type 0
IsBytes bytes = (i : ℕ) → get_or bytes i 0 < 256

pub IsBytes-drop : (n : ℕ) (bytes : List ℕ) → IsBytes bytes → IsBytes (drop n bytes)
IsBytes-drop n bytes h i = rw get_or-drop (h (n + i))

pub IsBytes-take : (n : ℕ) (bytes : List ℕ) → IsBytes bytes → IsBytes (take n bytes)
IsBytes-take n bytes h i =
    elim (cases_lt i n) [
      | inl lt ↦ rw (get_or-take n bytes i 0 lt) (h i)
      | inr le ↦ rw (get_or_past (take n bytes) i 0 (omega (arith, length-take n bytes))) (omega arith)
    ]

-- two runs side by side are one run
pub take_both : (a b : ℕ) (xs : List ℕ) → take a xs ++ take b (drop a xs) ≡ take (a + b) xs
take_both a b xs =
    let less : a ≤ a + b = omega arith in
    rw (take-take a (a + b) xs less, drop-take a b xs) at (take-append-drop a (take (a + b) xs))

runs_join : (place a b : ℕ) (xs : List ℕ) → take a (drop place xs) ++ take b (drop (place + a) xs) ≡ take (a + b) (drop place xs)
runs_join place a b xs = rw (← drop-drop a place xs) (take_both a b (drop place xs))

-- the same with each run under a name of its own
pub joined : (place a b : ℕ) (xs front back : List ℕ) → front ≡ take a (drop place xs) → back ≡ take b (drop (place + a) xs) → front ++ back ≡ take (a + b) (drop place xs)
joined place a b xs front back e f = ap (λ (x : List ℕ). x ++ back) e ∙ ap (λ (x : List ℕ). take a (drop place xs) ++ x) f ∙ runs_join place a b xs
