-- Items with their numbers, in two parts and at a place.
use Rattle.std.proofs.Common.{◌≡◌, ℕ, zero, suc, ◌+◌, List, [], ◌∷◌, ◌++◌, length, Some, None, ap, ◌∙◌, arith}
use Rattle.std.specs.List.{slice_get}
use Rattle.nob_item.specs.declared.item.Item.{Item}
use Rattle.nob_model_journal.specs.Fronts.{with_numbers}
use Rattle.nob_model_holdings.proofs.Lists.{some_same}

none_some : {X : Type 0} (x : X) → None ≡ Some x → ⊥
none_some x e = cc

-- items with their numbers, in two parts
pub numbered-append : (k : ℕ) (xs ys : List Item) → with_numbers k (xs ++ ys) ≡ with_numbers k xs ++ with_numbers (k + length xs) ys
numbered-append k [] ys = ap (λ (m : ℕ). with_numbers m ys) (omega arith)
numbered-append k (x ∷ xs) ys = ap (λ zs. (k, Some x) ∷ zs) (numbered-append (k + 1) xs ys ∙ ap (λ (m : ℕ). with_numbers (k + 1) xs ++ with_numbers m ys) (omega arith))

-- the item at a place, with its number
pub numbered_at : (k : ℕ) (xs : List Item) (place : ℕ) (x : Item) → slice_get xs place ≡ Some x → slice_get (with_numbers k xs) place ≡ Some (k + place, Some x)
numbered_at k [] place x at = absurd (none_some x at)
numbered_at k (y ∷ xs) zero x at = ap (λ item. Some (k, Some item)) (some_same y x at) ∙ ap (λ (m : ℕ). Some (m, Some x)) (omega arith)
numbered_at k (y ∷ xs) (suc place) x at = numbered_at (k + 1) xs place x at ∙ ap (λ (m : ℕ). Some (m, Some x)) (omega arith)
