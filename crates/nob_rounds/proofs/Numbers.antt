-- The numbers up to one, by those up to the one before.
use Rattle.std.proofs.Common.{arith, ◌≡◌, ◌<◌, ◌-◌, ℕ, suc, List, [], ◌∷◌, ◌++◌, refl, sym, ap, subst, ◌∙◌}
use Rattle.nob_rounds.specs.Sessions.{numbers_up_to}

-- one number more
next_number : (before last : ℕ) → last ≡ suc before → numbers_up_to before ++ last ∷ [] ≡ numbers_up_to last
next_number before last counted = subst (λ (k : ℕ). numbers_up_to before ++ k ∷ [] ≡ numbers_up_to k) (sym counted) refl

-- a list with one number more
pub one_more : (last : ℕ) (front : List ℕ) → 0 < last → front ≡ numbers_up_to (last - 1) → front ++ last ∷ [] ≡ numbers_up_to last
one_more last front some same = ap (λ (xs : List ℕ). xs ++ last ∷ []) same ∙ next_number (last - 1) last (omega (arith, some))
