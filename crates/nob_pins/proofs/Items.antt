-- The bundles of a peer by item number.
use Rattle.std.proofs.Common.{◌≡◌, ℕ, ◌<◌, ◌==◌, ◌||◌, Bool, true, false, cond, List, [], ◌∷◌, ◌++◌, length, Some, None, is_some, eqb-true, slice_get, refl, sym, ap, ◌∙◌, arith}
use Prim.Native.Nat.{zero, suc}
use Rattle.std.specs.Map.{lookup, values_of}
use Rattle.std.proofs.lemmas.List.{map-append}
use Rattle.std.specs.List.Sorted.{IsPermutation}
use Rattle.std.proofs.lemmas.List.Elements.{All-head, All-tail, All-append, All-nil, All-cons}
use Rattle.std.proofs.lemmas.List.Sorted.{IsPermutation-sym, IsPermutation-swap_remove, IsPermutation-map, All-permutation}
use Rattle.std.proofs.lemmas.Option.{none-some, same_Some, slice_get_within, get_or_from_slice_get}
use Rattle.std.specs.List.{swap_remove}
use Rattle.nob_pins.specs.Bundles.{Pinned}
use Rattle.nob_pins.specs.Peers.{AreByItem, has_item}

-- a bundle of an item is there where a look-up finds one
pub item_lookup : (item : ℕ) (es : List (ℕ × Pinned)) → AreByItem es → has_item item (values_of es) ≡ is_some (lookup (λ k. item == k) es)
item_lookup item [] are = refl
item_lookup item (e ∷ es) are =
    let here : e.1.item ≡ e.0 = All-head (λ (x : ℕ × Pinned). x.1.item ≡ x.0) e es are in
    let rest = item_lookup item es (All-tail (λ (x : ℕ × Pinned). x.1.item ≡ x.0) e es are) in
    let same : (item == e.1.item) ≡ (item == e.0) = ap (λ (k : ℕ). item == k) here in
    ap (λ (b : Bool). b || has_item item (values_of es)) same
    ∙ elim (item == e.0) as (λ b. (b || has_item item (values_of es)) ≡ is_some (cond b (Some e.1) (lookup (λ k. item == k) es))) [ true ↦ refl | false ↦ rest ]

-- what a look-up finds is of the item
pub lookup_item : (item : ℕ) (es : List (ℕ × Pinned)) (b : Pinned) → AreByItem es → lookup (λ k. item == k) es ≡ Some b → b.item ≡ item
lookup_item item [] b are got = absurd (none-some b got)
lookup_item item (e ∷ es) b are got =
    let here : e.1.item ≡ e.0 = All-head (λ (x : ℕ × Pinned). x.1.item ≡ x.0) e es are in
    let rest = lookup_item item es b (All-tail (λ (x : ℕ × Pinned). x.1.item ≡ x.0) e es are) in
    elim (item == e.0) as (λ t. (item == e.0) ≡ t → cond t (Some e.1) (lookup (λ k. item == k) es) ≡ Some b → b.item ≡ item) [
      | true ↦ λ t g. ap (λ (x : Pinned). x.item) (sym (same_Some e.1 b g)) ∙ here ∙ sym (eqb-true item e.0 t)
      | false ↦ λ t g. rest g
    ] refl got

-- there is an entry at each place
pub no_gap : (es : List (ℕ × Pinned)) (i : ℕ) → i < length es → slice_get es i ≡ None → ⊥
no_gap [] i low none = omega (arith, low)
no_gap (e ∷ es) zero low none = none-some e (sym none)
no_gap (e ∷ es) (suc i) low none = no_gap es i (omega (arith, low)) none

-- a bundle more at the end, under its item
pub by_item_pushed : (es : List (ℕ × Pinned)) (b : Pinned) → AreByItem es → AreByItem (es ++ (b.item, b) ∷ [])
by_item_pushed es b are =
    All-append (λ (x : ℕ × Pinned). x.1.item ≡ x.0) es ((b.item, b) ∷ []) are
    (All-cons (λ (x : ℕ × Pinned). x.1.item ≡ x.0) (b.item, b) [] refl (All-nil (λ (x : ℕ × Pinned). x.1.item ≡ x.0)))

pub values_pushed : (es : List (ℕ × Pinned)) (k : ℕ) (b : Pinned) → values_of (es ++ (k, b) ∷ []) ≡ values_of es ++ b ∷ []
values_pushed es k b = map-append (λ (x : ℕ × Pinned). x.1) es ((k, b) ∷ [])

-- a bundle is taken out
pub entry_taken : (es : List (ℕ × Pinned)) (i : ℕ) (e : ℕ × Pinned) → slice_get es i ≡ Some e → IsPermutation (e ∷ swap_remove es i e) es
entry_taken es i e got = IsPermutation-sym _ _ (IsPermutation-swap_remove es i e (slice_get_within es i e got) (sym (get_or_from_slice_get es i e e got)))

-- what is left where one entry is taken out
module _ (es fs : List (ℕ × Pinned)) (item : ℕ) (b : Pinned) (are : AreByItem es) (out : IsPermutation ((item, b) ∷ fs) es) where
  both : AreByItem ((item, b) ∷ fs)
  both = All-permutation (λ (x : ℕ × Pinned). x.1.item ≡ x.0) es ((item, b) ∷ fs) (IsPermutation-sym ((item, b) ∷ fs) es out) are

  pub its_item : b.item ≡ item
  its_item = All-head (λ (x : ℕ × Pinned). x.1.item ≡ x.0) (item, b) fs both

  pub left_by_item : AreByItem fs
  left_by_item = All-tail (λ (x : ℕ × Pinned). x.1.item ≡ x.0) (item, b) fs both

  pub left_values : IsPermutation (b ∷ values_of fs) (values_of es)
  left_values = IsPermutation-map (λ (x : ℕ × Pinned). x.1) ((item, b) ∷ fs) es out
