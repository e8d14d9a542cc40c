-- A first line is parted at its first space.
use Rattle.std.proofs.Common.{◌≡◌, ℕ, suc, ◌+◌, ◌^◌, ◌<◌, false, List, [], ◌∷◌, ◌++◌, length, take, drop, map, arith, refl, sym, ap, subst, ◌∙◌, codes}
use Rattle.std.specs.Prelude.{◌==◌}
use Rattle.std.specs.List.{AllByRecursion}
use Rattle.std.specs.Fmt.{decimal}
use Rattle.std.specs.Int.Digits.{digits_of}
use Rattle.std.proofs.lemmas.Fmt.{decimal-digits_of}
use Rattle.std.proofs.lemmas.List.{take_at, drop_at}
use Rattle.std.proofs.lemmas.Bool.Decides.{nat_tests}
use Rattle.nob_demo_scripts.specs.Grammar.{limits_text, length_of_word, IsLimits}

not_space : (d : ℕ) → (48 + d == 32) ≡ false
not_space d = grind (arith, nat_tests)

no_spaces : (ds : List ℕ) → AllByRecursion (λ b. (b == 32) ≡ false) (map (λ d. 48 + d) ds)
no_spaces [] = tt
no_spaces (d ∷ ds) = (not_space d, no_spaces ds)

-- a number has no space in it
pub decimal_has_none : (n : ℕ) → 0 < n → n < 2 ^ 64 → AllByRecursion (λ b. (b == 32) ≡ false) (decimal n)
decimal_has_none n above small = subst (AllByRecursion (λ b. (b == 32) ≡ false)) (sym (decimal-digits_of n above small)) (no_spaces (digits_of 10 n))

word_before : (front rest : List ℕ) → AllByRecursion (λ b. (b == 32) ≡ false) front → length_of_word (front ++ 32 ∷ rest) ≡ length front
word_before [] rest h = refl
word_before (b ∷ bs) rest h = rw h.0 (ap suc (word_before bs rest h.1))

-- the two parts of the limits' text
pub parts_of : (text : List ℕ) (window retry : ℕ) → IsLimits window retry → text ≡ limits_text window retry
    → (take (length_of_word text) text ≡ decimal window) × (drop (length_of_word text) text ≡ codes " retry " ++ decimal retry)
parts_of text window retry fits spelt =
    let none = decimal_has_none window (omega (arith, fits.0)) (omega (arith, fits.1)) in
    let rest : List ℕ = 114 ∷ 101 ∷ 116 ∷ 114 ∷ 121 ∷ 32 ∷ decimal retry in
    let len : length_of_word text ≡ length (decimal window) = ap length_of_word spelt ∙ word_before (decimal window) rest none in (
      ap (λ (n : ℕ). take n text) len ∙ ap (take (length (decimal window))) spelt ∙ take_at (decimal window) (32 ∷ rest) (length (decimal window)) refl,
      ap (λ (n : ℕ). drop n text) len ∙ ap (drop (length (decimal window))) spelt ∙ drop_at (decimal window) (32 ∷ rest) (length (decimal window)) refl,
    )
