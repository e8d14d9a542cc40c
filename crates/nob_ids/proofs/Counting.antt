-- How many elements of a list pass a test. The names don't need it: it stands here for the crates above that keep lists without repeats.
use Rattle.std.proofs.Common.{◌≡◌, ◌+◌, ◌≤◌, Bool, true, false, not, List, [], ◌∷◌, filter, cond, ◌||◌, refl, sym, ◌∙◌, arith}
use Rattle.std.specs.List.{list_any, count_by}
use Rattle.std.proofs.lemmas.List.Sums.{sum_by-cons}
use Rattle.std.proofs.lemmas.List.Filters.{sum_by-filter_both}

module _ {X : Type 0} (p : X → Bool) where
  -- none passes where none counts, and the other way round
  pub count_none : (xs : List X) → list_any p xs ≡ false → count_by p xs ≡ 0
  count_none [] none = refl
  count_none (x ∷ xs) none =
      sum_by-cons (λ y. cond (p y) 1 0) x xs
      ∙ elim (p x) as (λ b. (b || list_any p xs) ≡ false → cond b 1 0 + count_by p xs ≡ 0) [ true ↦ λ e. cc | false ↦ λ e. let rest = count_none xs e in omega arith ] none

  pub none_counted : (xs : List X) → count_by p xs ≡ 0 → list_any p xs ≡ false
  none_counted [] none = refl
  none_counted (x ∷ xs) none =
      let here : cond (p x) 1 0 + count_by p xs ≡ 0 = sym (sum_by-cons (λ y. cond (p y) 1 0) x xs) ∙ none in
      elim (p x) as (λ b. cond b 1 0 + count_by p xs ≡ 0 → (b || list_any p xs) ≡ false) [
        | true ↦ λ e. absurd (omega arith)
        | false ↦ λ e. none_counted xs (omega arith)
      ] here

  -- a filter leaves no more that count
  pub count_filter : (q : X → Bool) (xs : List X) → count_by p (filter q xs) ≤ count_by p xs
  count_filter q xs = omega (arith, sum_by-filter_both q (λ x. not (q x)) (λ _. refl) (λ y. cond (p y) 1 0) xs)
