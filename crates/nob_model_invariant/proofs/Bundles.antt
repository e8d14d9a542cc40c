-- A Settle that comes next is of a bundle.
use Rattle.std.proofs.Common.{◌≡◌, ℕ, zero, suc, ◌+◌, ◌&&◌, ◌||◌, Bool, true, false, cond, List, [], ◌∷◌, ◌++◌, length, filter_map, Option, Some, None, refl, sym, ap, ◌∙◌, arith, ◌⊎◌, inl, inr}
use Rattle.std.specs.Prelude.{◌==◌}
use Rattle.std.specs.List.{slice_get, cons_option}
use Rattle.std.proofs.lemmas.Bool.{eqb-true, eq-eqb, or_left, or_right, both_ways}
use Rattle.std.proofs.lemmas.List.{length_push}
use Rattle.std.proofs.lemmas.List.Elements.{filter_map-append}
use Rattle.nob_item.specs.declared.item.Item.{Item}
use Rattle.nob_item.specs.declared.item.Item.TheVariants as items
use Rattle.nob_model_types.specs.declared.deed.Deed.{Deed}
use Rattle.nob_model_types.specs.declared.deed.Deed.TheVariants as did
use Rattle.nob_model_types.specs.Sessions.{item_at, acted}
use Rattle.nob_model_history.specs.Transit.{is_settle_of, is_settled}
use Rattle.nob_model_history.proofs.Sending.{up_to}
use Rattle.nob_model_journal.specs.Fronts.{with_numbers}
use Rattle.nob_model_invariant.specs.Asking.{items_among}
use Rattle.nob_model_invariant.specs.Settles.{settle_in, settles_among, is_in, AreOnce}
use Rattle.nob_model_holdings.proofs.Lists.{some_same}

none_some : {X : Type 0} (x : X) → None ≡ Some x → ⊥
none_some x e = cc

-- the item at a place among numbered ones
pub numbered_item : (m : ℕ) (xs : List Item) (place k : ℕ) (x : Item) → slice_get (with_numbers m xs) place ≡ Some (k, Some x) → (slice_get xs place ≡ Some x) × (k ≡ m + place)
numbered_item m [] place k x at = absurd (none_some _ at)
numbered_item m (y ∷ xs) zero k x at = let same = some_same (m, Some y) (k, Some x) at in (ap (λ (pair : ℕ × Option Item). pair.1) same, let number = ap (λ (pair : ℕ × Option Item). pair.0) same in omega (arith, number))
numbered_item m (y ∷ xs) (suc place) k x at = let rest = numbered_item (m + 1) xs place k x at in (rest.0, let number = rest.1 in omega (arith, number))

-- a number among 1, 2, .. at a place
last_or_before : (xs : List ℕ) (y place v : ℕ) → slice_get (xs ++ y ∷ []) place ≡ Some v → (slice_get xs place ≡ Some v) ⊎ ((place ≡ length xs) × (y ≡ v))
last_or_before [] y zero v at = inr (refl, some_same y v at)
last_or_before [] y (suc place) v at = absurd (none_some v at)
last_or_before (x ∷ xs) y zero v at = inl at
last_or_before (x ∷ xs) y (suc place) v at = later (last_or_before xs y place v at)
  where
    later : (slice_get xs place ≡ Some v) ⊎ ((place ≡ length xs) × (y ≡ v)) → (slice_get xs place ≡ Some v) ⊎ ((suc place ≡ suc (length xs)) × (y ≡ v))
    later (inl before) = inl before
    later (inr last) = inr (ap suc last.0, last.1)

length_up_to : (count : ℕ) → length (up_to count) ≡ count
length_up_to zero = refl
length_up_to (suc k) = length_push (up_to k) (suc k) ∙ ap (λ (m : ℕ). m + 1) (length_up_to k) ∙ (let same : k + 1 ≡ suc k = omega arith in same)

pub up_to_at : (count place v : ℕ) → slice_get (up_to count) place ≡ Some v → v ≡ place + 1
up_to_at zero place v at = absurd (none_some v at)
up_to_at (suc k) place v at = by (up_to_at k place v) (last_or_before (up_to k) (suc k) place v at)
  where
    by : (slice_get (up_to k) place ≡ Some v → v ≡ place + 1) → (slice_get (up_to k) place ≡ Some v) ⊎ ((place ≡ length (up_to k)) × (suc k ≡ v)) → v ≡ place + 1
    by earlier (inl before) = earlier before
    by earlier (inr last) = let size = length_up_to k in let there = last.0 in let same = last.1 in omega (arith, size, there, same)

-- ---- no item is settled twice

in_middle : (ks more : List ℕ) (j k : ℕ) → (k == j) ≡ true → is_in j (ks ++ k ∷ more) ≡ true
in_middle [] more j k same = or_left (k == j) (is_in j more) same
in_middle (i ∷ ks) more j k same = or_right (i == j) (is_in j (ks ++ k ∷ more)) (in_middle ks more j k same)

-- of numbers that stand once none stands before itself
pub never_twice : (ks more : List ℕ) (k : ℕ) → AreOnce (ks ++ k ∷ more) → is_in k ks ≡ true → ⊥
never_twice [] more k once is = cc
never_twice (j ∷ ks) more k once is = by (never_twice ks more k once.1) (j == k) refl is
  where
    by : (is_in k ks ≡ true → ⊥) → (b : Bool) → (j == k) ≡ b → (b || is_in k ks) ≡ true → ⊥
    by rest true same either = both_ways (is_in j (ks ++ k ∷ more)) once.0 (in_middle ks more j k (eq-eqb k j (sym (eqb-true j k same))))
    by rest false same either = rest either

settle_is : (k : ℕ) (found : Option Item) → is_settle_of k found ≡ true → is_in k (filter_map settle_in (cons_option found [])) ≡ true
settle_is k (Some (items.Settle item)) is = or_left (item == k) false is
settle_is k None is = cc
settle_is k (Some (items.Call call target method value)) is = cc
settle_is k (Some (items.Reply call status value)) is = cc
settle_is k (Some (items.Dirty index)) is = cc
settle_is k (Some (items.DirtyOk index)) is = cc
settle_is k (Some (items.DirtyNo index)) is = cc
settle_is k (Some (items.Clean index)) is = cc

any_left : (k : ℕ) (ks js : List ℕ) → is_in k ks ≡ true → is_in k (ks ++ js) ≡ true
any_left k [] js is = cc
any_left k (i ∷ ks) js is = by (any_left k ks js) (i == k) is
  where
    by : (is_in k ks ≡ true → is_in k (ks ++ js) ≡ true) → (b : Bool) → (b || is_in k ks) ≡ true → (b || is_in k (ks ++ js)) ≡ true
    by rest true either = refl
    by rest false either = rest either

any_after : (k : ℕ) (ks js : List ℕ) → is_in k js ≡ true → is_in k (ks ++ js) ≡ true
any_after k [] js is = is
any_after k (i ∷ ks) js is = or_right (i == k) (is_in k (ks ++ js)) (any_after k ks js is)

settles_split : (pairs : List (ℕ × Option Item)) (j : ℕ) (found : Option Item) → settles_among (items_among (pairs ++ (j, found) ∷ [])) ≡ settles_among (items_among pairs) ++ filter_map settle_in (cons_option found [])
settles_split pairs j found = ap settles_among (filter_map-append (λ (pair : ℕ × Option Item). pair.1) pairs ((j, found) ∷ [])) ∙ filter_map-append settle_in (items_among pairs) (cons_option found [])

-- what is settled stands among the Settles that were acted on
pub settled_in : (p k : ℕ) (D : List Deed) → is_settled p k D ≡ true → is_in k (settles_among (items_among (acted p D))) ≡ true
settled_in p k [] is = cc
settled_in p k (did.Act q j ∷ D) is = by (settled_in p k D) (q == p) refl (is_settle_of k (item_at q j D)) refl is
  where
    by : (is_settled p k D ≡ true → is_in k (settles_among (items_among (acted p D))) ≡ true) → (own : Bool) → (q == p) ≡ own → (now : Bool) → is_settle_of k (item_at q j D) ≡ now → ((own && now) || is_settled p k D) ≡ true → is_in k (settles_among (items_among (cond own (acted p D ++ (j, item_at p j D) ∷ []) (acted p D)))) ≡ true
    by rest true same true settles either = ap (is_in k) (settles_split (acted p D) j (item_at p j D)) ∙ any_after k (settles_among (items_among (acted p D))) _ (settle_is k (item_at p j D) (ap (λ (r : ℕ). is_settle_of k (item_at r j D)) (sym (eqb-true q p same)) ∙ settles))
    by rest true same false settles either = ap (is_in k) (settles_split (acted p D) j (item_at p j D)) ∙ any_left k (settles_among (items_among (acted p D))) _ (rest either)
    by rest false same now settles either = rest either
settled_in p k (did.Open q j ∷ D) is = by (settled_in p k D) (q == p) is
  where
    by : (is_settled p k D ≡ true → is_in k (settles_among (items_among (acted p D))) ≡ true) → (own : Bool) → cond own false (is_settled p k D) ≡ true → is_in k (settles_among (items_among (cond own [] (acted p D)))) ≡ true
    by rest true is = cc
    by rest false is = rest is
settled_in p k (deed ∷ D) is = settled_in p k D is
