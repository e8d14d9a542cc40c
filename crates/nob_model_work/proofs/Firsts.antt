-- The first element that passes a test, where it stands, and the list without it.
use Rattle.std.proofs.Common.{◌≡◌, ℕ, ◌+◌, ◌<◌, Bool, true, false, not, cond, nat_lt, List, [], ◌∷◌, length, get_or, slice_get, Some, None, if◌then◌else◌, find, refl, sym, ap, ◌∙◌, arith}
use Prim.Native.Nat.{suc}
use Rattle.std.proofs.lemmas.Option.{none-some, slice_get_read, slice_get_past, slice_get-get_or, get_or_from_slice_get}
use Rattle.std.proofs.lemmas.Bool.Decides.{nat_tests}
use Rattle.std.proofs.lemmas.List.Folds.{find_at}
use Rattle.std.proofs.lemmas.List.Quantifiers.{position-Some}
use Rattle.std.specs.List.{position, position_or_len, remove}
use Rattle.nob_model_work.specs.Work.{without_first}

-- where none passes, nothing is taken out
pub none_taken : {A : Type 0} (test : A → Bool) (xs : List A) → find test xs ≡ None → without_first test xs ≡ xs
none_taken test [] none = refl
none_taken test (x ∷ xs) none =
    elim (test x) as (λ b. cond b (Some x) (find test xs) ≡ None → cond b xs (x ∷ without_first test xs) ≡ x ∷ xs) [
      | true ↦ λ n. cc
      | false ↦ λ n. ap (λ ys. x ∷ ys) (none_taken test xs n)
    ] none

-- the place of the first that passes a test
position_first : {A : Type 0} (test : A → Bool) (x : A) (xs : List A) → position_or_len test (x ∷ xs) ≡ (if test x then 0 else suc (position_or_len test xs))
position_first test x xs = elim (test x) as (λ b. cond (not b) (1 + position_or_len test xs) 0 ≡ (if b then 0 else suc (position_or_len test xs))) [ true ↦ refl | false ↦ omega arith ]

-- without the element at the place of the first that passes, a list is without that one
pub removed_first : {A : Type 0} (test : A → Bool) (xs : List A) (m : A) → find test xs ≡ Some m → remove xs (position_or_len test xs) ≡ without_first test xs
removed_first test [] m found = absurd (none-some m found)
removed_first {A} test (x ∷ xs) m found = ap (remove (x ∷ xs)) (position_first test x xs) ∙ elim (test x) as (λ b. cond b (Some x) (find test xs) ≡ Some m → remove (x ∷ xs) (if b then 0 else suc (position_or_len test xs)) ≡ (if b then xs else x ∷ without_first test xs)) [
  | true ↦ λ here. refl
  | false ↦ λ there. ap (λ ys. x ∷ ys) (removed_first test xs m there)
] found

-- where no place is found nothing passes
pub no_place : {A : Type 0} (test : A → Bool) (xs : List A) → position test xs ≡ None → find test xs ≡ None
no_place test xs none = find_at test xs ∙ elim (nat_lt (position_or_len test xs) (length xs)) as (λ b. nat_lt (position_or_len test xs) (length xs) ≡ b → cond b (Some (position_or_len test xs)) None ≡ None → slice_get xs (position_or_len test xs) ≡ None) [
  | true ↦ λ under e. absurd (none-some (position_or_len test xs) (sym e))
  | false ↦ λ over e. slice_get_past xs (position_or_len test xs) (grind (arith, nat_tests, over))
] refl none

-- what stands at the place that is found is the first that passes, and it is the only one that goes with the place
pub at_place : {A : Type 0} (test : A → Bool) (xs : List A) (i : ℕ) (m : A) → position test xs ≡ Some i → m ≡ get_or xs i m → (find test xs ≡ Some m) × (remove xs i ≡ without_first test xs)
at_place {A} test xs i m found is =
    let at : position_or_len test xs ≡ i = elim (nat_lt (position_or_len test xs) (length xs)) as (λ b. cond b (Some (position_or_len test xs)) None ≡ Some i → position_or_len test xs ≡ i) [ true ↦ λ e. cc | false ↦ λ e. absurd (none-some i e) ] found in
    let under : i < length xs = (position-Some test xs i m found).0 in
    let there : slice_get xs i ≡ Some m = slice_get_read xs (length xs) i m refl under is in
    let first : find test xs ≡ Some m = find_at test xs ∙ ap (slice_get xs) at ∙ there in
    (first, ap (remove xs) (sym at) ∙ removed_first test xs m first)

-- at the place that is found something passes
pub place_first : {A : Type 0} (test : A → Bool) (xs : List A) (i : ℕ) → position test xs ≡ Some i → (m : A) × (find test xs ≡ Some m)
place_first test [] i found = absurd (none-some i found)
place_first test (x ∷ xs) i found =
    let under : i < length (x ∷ xs) = (position-Some test (x ∷ xs) i x found).0 in
    let m = get_or (x ∷ xs) i x in
    (m, (at_place test (x ∷ xs) i m found (sym (get_or_from_slice_get (x ∷ xs) i m m (slice_get-get_or (x ∷ xs) i x under)))).0)
