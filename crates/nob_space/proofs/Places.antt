-- A list that is written place by place.
use Rattle.std.proofs.Common.{◌≡◌, ℕ, ◌+◌, ◌-◌, ◌<◌, ◌≤◌, ◌==◌, Bool, true, false, List, [], ◌∷◌, length, slice_get, Some, refl, sym, ap, ◌∙◌, arith}
use Prim.Native.Nat.{zero, suc}
use lib.ListN.{set}
use Rattle.std.proofs.lemmas.Bool.Decides.{nat_tests, Decides-eqb}
use Rattle.nob_table_rows.proofs.Flat.{get_set_other}

-- up to a place, counted from 1, a list has what a word tells of each number
abbrev pub IsWrittenTo : (ℕ → Bool) → ℕ → List Bool → Type 0
IsWrittenTo word place all = (p : ℕ) → 1 ≤ p → p ≤ place → slice_get all (p - 1) ≡ Some (word p)

-- what was written at a place is there
set_there : {X : Type 0} (xs : List X) (i : ℕ) (y : X) → i < length xs → slice_get (set xs i y) i ≡ Some y
set_there [] i y inside = absurd (omega (arith, inside))
set_there (x ∷ xs) zero y inside = refl
set_there (x ∷ xs) (suc i) y inside = set_there xs i y (omega (arith, inside))

-- one place more
pub written_more : (word : ℕ → Bool) (place : ℕ) (all : List Bool) (told : Bool) → place < length all → told ≡ word (place + 1) → IsWrittenTo word place all → IsWrittenTo word (place + 1) (set all place told)
written_more word place all told inside is before = λ p low high.
    elim (p == place + 1) as (λ b. p == place + 1 ≡ b → slice_get (set all place told) (p - 1) ≡ Some (word p)) [
      | true ↦ λ same.
          let at : p ≡ place + 1 = (Decides-eqb p (place + 1)).0 same in
          ap (slice_get (set all place told)) (omega (arith, at)) ∙ set_there all place told inside ∙ ap (λ b. Some b) is ∙ ap (λ k. Some (word k)) (sym at)
      | false ↦ λ differs.
          get_set_other all place (p - 1) told (λ same. omega (arith, same, low, sooner p place high differs)) ∙ before p low (sooner p place high differs)
    ] refl
  where
    sooner : (p place : ℕ) → p ≤ place + 1 → p == place + 1 ≡ false → p ≤ place
    sooner p place high differs = grind (arith, nat_tests, high, differs)
