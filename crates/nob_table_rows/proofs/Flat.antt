-- Lists: another element at a place, one more behind the last, and those that a test lets through.
use Rattle.std.proofs.Common.{◌≡◌, ℕ, ◌<◌, ◌⊎◌, inl, inr, Bool, true, false, cond, List, [], ◌∷◌, ◌++◌, length, filter, Some, slice_get, refl, ap, subst, ◌∙◌, sym, arith}
use Prim.Native.Nat.{zero, suc}
use lib.ListN.{set}
use Rattle.std.proofs.lemmas.Option.{none-some, same_Some}

-- ---- another element at a place
pub get_set_same : {A : Type 0} (xs : List A) (i : ℕ) (x y : A) → slice_get xs i ≡ Some x → slice_get (set xs i y) i ≡ Some y
get_set_same [] i x y got = absurd (none-some x got)
get_set_same (a ∷ xs) zero x y got = refl
get_set_same (a ∷ xs) (suc i) x y got = get_set_same xs i x y got

pub get_set_other : {A : Type 0} (xs : List A) (i j : ℕ) (y : A) → (j ≡ i → ⊥) → slice_get (set xs i y) j ≡ slice_get xs j
get_set_other [] i j y other = refl
get_set_other (a ∷ xs) zero zero y other = absurd (other refl)
get_set_other (a ∷ xs) zero (suc j) y other = refl
get_set_other (a ∷ xs) (suc i) zero y other = refl
get_set_other (a ∷ xs) (suc i) (suc j) y other = get_set_other xs i j y (λ e. other (ap suc e))

-- what stands where one was written, is what was written
pub set_is_written : {A : Type 0} (xs : List A) (i : ℕ) (y z : A) → slice_get (set xs i y) i ≡ Some z → z ≡ y
set_is_written [] i y z got = absurd (none-some z got)
set_is_written (a ∷ xs) zero y z got = sym (same_Some y z got)
set_is_written (a ∷ xs) (suc i) y z got = set_is_written xs i y z got

-- ---- one more behind the last
pub length_push : {A : Type 0} (xs : List A) (y : A) → length (xs ++ y ∷ []) ≡ suc (length xs)
length_push [] y = refl
length_push (x ∷ xs) y = ap suc (length_push xs y)

pub get_push_low : {A : Type 0} (xs : List A) (y : A) (k : ℕ) → k < length xs → slice_get (xs ++ y ∷ []) k ≡ slice_get xs k
get_push_low [] y k less = absurd (omega arith)
get_push_low (x ∷ xs) y zero less = refl
get_push_low (x ∷ xs) y (suc k) less = get_push_low xs y k (omega arith)

pub get_push_here : {A : Type 0} (xs : List A) (y : A) → slice_get (xs ++ y ∷ []) (length xs) ≡ Some y
get_push_here [] y = refl
get_push_here (x ∷ xs) y = get_push_here xs y

pub get_push_other : {A : Type 0} (xs : List A) (y : A) (k : ℕ) → (k ≡ length xs → ⊥) → slice_get (xs ++ y ∷ []) k ≡ slice_get xs k
get_push_other [] y zero other = absurd (other refl)
get_push_other [] y (suc k) other = refl
get_push_other (x ∷ xs) y zero other = refl
get_push_other (x ∷ xs) y (suc k) other = get_push_other xs y k (λ e. other (ap suc e))

pub push_cases : {A : Type 0} (xs : List A) (y : A) (k : ℕ) (z : A) → slice_get (xs ++ y ∷ []) k ≡ Some z → ((k < length xs) × (slice_get xs k ≡ Some z)) ⊎ ((k ≡ length xs) × (y ≡ z))
push_cases [] y zero z got = inr (refl, same_Some y z got)
push_cases [] y (suc k) z got = absurd (none-some z got)
push_cases (x ∷ xs) y zero z got = inl (omega arith, got)
push_cases (x ∷ xs) y (suc k) z got =
    elim (push_cases xs y k z got) as (λ _. ((suc k < length (x ∷ xs)) × (slice_get xs k ≡ Some z)) ⊎ ((suc k ≡ length (x ∷ xs)) × (y ≡ z))) [ inl low ↦ inl (omega (arith, low.0), low.1) | inr here ↦ inr (ap suc here.0, here.1) ]

-- ---- those that a test lets through
module _ {A : Type 0} (test : A → Bool) where
  kept_had : (x : A) (xs : List A) (j : ℕ) (y : A) → test x ≡ true → ((i : ℕ) → slice_get (filter test xs) i ≡ Some y → (k : ℕ) × (slice_get xs k ≡ Some y) × (test y ≡ true)) → slice_get (x ∷ filter test xs) j ≡ Some y
      → (k : ℕ) × (slice_get (x ∷ xs) k ≡ Some y) × (test y ≡ true)
  kept_had x xs zero y t rest h = (0, h, subst (λ (w : A). test w ≡ true) (same_Some x y h) t)
  kept_had x xs (suc j) y t rest h = let later = rest j h in (suc later.0, later.1, later.2)

  -- each stood there, and passes
  pub filter_had : (xs : List A) (j : ℕ) (y : A) → slice_get (filter test xs) j ≡ Some y → (k : ℕ) × (slice_get xs k ≡ Some y) × (test y ≡ true)
  filter_had [] j y got = absurd (none-some y got)
  filter_had (x ∷ xs) j y got =
      elim (test x) as (λ b. test x ≡ b → slice_get (cond b (x ∷ filter test xs) (filter test xs)) j ≡ Some y → (k : ℕ) × (slice_get (x ∷ xs) k ≡ Some y) × (test y ≡ true)) [
        | true ↦ λ t h. kept_had x xs j y t (λ i there. filter_had xs i y there) h
        | false ↦ λ u h. let rest = filter_had xs j y h in (suc rest.0, rest.1, rest.2)
      ] refl got

  -- each that passes stands there
  pub filter_has : (xs : List A) (k : ℕ) (y : A) → slice_get xs k ≡ Some y → test y ≡ true → (j : ℕ) × (slice_get (filter test xs) j ≡ Some y)
  filter_has [] k y got passes = absurd (none-some y got)
  filter_has (x ∷ xs) zero y got passes =
      let t : test x ≡ true = ap test (same_Some x y got) ∙ passes in
      (0, rw t got)
  filter_has (x ∷ xs) (suc k) y got passes =
      let rest = filter_has xs k y got passes in
      elim (test x) as (λ b. (j : ℕ) × (slice_get (cond b (x ∷ filter test xs) (filter test xs)) j ≡ Some y)) [ true ↦ (suc rest.0, rest.1) | false ↦ (rest.0, rest.1) ]
