-- What a list has at each place after one place was set.
use Rattle.std.proofs.Common.{◌≡◌, ◌≢◌, ℕ, zero, suc, ◌⊎◌, inl, inr, List, [], ◌∷◌, Some, None, set, replicate, refl, sym, ap, subst, ◌∙◌, arith}
use Rattle.std.specs.List.{slice_get}

module _ {A : Type 0} where
  pub none_some : (x : A) → None ≡ Some x → ⊥
  none_some x e = cc

  -- what was set stands there
  pub get_here : (xs : List A) (i : ℕ) (old new : A) → slice_get xs i ≡ Some old → slice_get (set xs i new) i ≡ Some new
  get_here [] i old new e = absurd (none_some old e)
  get_here (x ∷ xs) zero old new e = refl
  get_here (x ∷ xs) (suc i) old new e = get_here xs i old new e

  -- all else stands where it stood
  pub get_else : (xs : List A) (i j : ℕ) (new : A) → j ≢ i → slice_get (set xs i new) j ≡ slice_get xs j
  get_else [] i j new apart = refl
  get_else (x ∷ xs) zero zero new apart = absurd (apart refl)
  get_else (x ∷ xs) zero (suc j) new apart = refl
  get_else (x ∷ xs) (suc i) zero new apart = refl
  get_else (x ∷ xs) (suc i) (suc j) new apart = get_else xs i j new (λ e. apart (ap suc e))

  -- what is found is what was set, or stood there
  pub get_set : (xs : List A) (i j : ℕ) (new found : A) → slice_get (set xs i new) j ≡ Some found → ((j ≡ i) × (new ≡ found)) ⊎ ((j ≢ i) × (slice_get xs j ≡ Some found))
  get_set [] i j new found e = absurd (none_some found e)
  get_set (x ∷ xs) zero zero new found e = inl (refl, cc)
  get_set (x ∷ xs) zero (suc j) new found e = inr ((λ same. omega (arith, same)), e)
  get_set (x ∷ xs) (suc i) zero new found e = inr ((λ same. omega (arith, same)), e)
  get_set (x ∷ xs) (suc i) (suc j) new found e = by (get_set xs i j new found e)
    where
      by : ((j ≡ i) × (new ≡ found)) ⊎ ((j ≢ i) × (slice_get xs j ≡ Some found)) → ((suc j ≡ suc i) × (new ≡ found)) ⊎ ((suc j ≢ suc i) × (slice_get xs j ≡ Some found))
      by (inl (at, is)) = inl (ap suc at, is)
      by (inr (apart, there)) = inr ((λ same. apart (omega (arith, same))), there)

  -- in a list of one thing nothing else is found
  pub get_replicate : (n i : ℕ) (x found : A) → slice_get (replicate n x) i ≡ Some found → found ≡ x
  get_replicate zero i x found e = absurd (none_some found e)
  get_replicate (suc n) zero x found e = cc
  get_replicate (suc n) (suc i) x found e = get_replicate n i x found e

  -- one of them is so
  abbrev pub Found : (A → Type 0) → List A → Type 0
  Found P xs = (i : ℕ) × (x : A) × (slice_get xs i ≡ Some x) × P x

  -- each of them is so
  abbrev pub Each : (A → Type 0) → List A → Type 0
  Each P xs = (i : ℕ) (x : A) → slice_get xs i ≡ Some x → P x

  some_same : (x y : A) → Some x ≡ Some y → x ≡ y
  some_same x y e = cc

  -- what was set is so
  pub now_found : (P : A → Type 0) (xs : List A) (i : ℕ) (old new : A) → slice_get xs i ≡ Some old → P new → Found P (set xs i new)
  now_found P xs i old new at is = (i, new, get_here xs i old new at, is)

  -- one that is so was not the one that changed, and stands there still
  pub still_found : (P : A → Type 0) (xs : List A) (i : ℕ) (old new : A) → slice_get xs i ≡ Some old → (P old → ⊥) → Found P xs → Found P (set xs i new)
  still_found P xs i old new at isnt (j, x, there, is) = (
    j,
    x,
    get_else xs i j new (λ same. isnt (subst P (some_same x old (sym there ∙ subst (λ (k : ℕ). slice_get xs k ≡ Some old) (sym same) at)) is)) ∙ there,
    is,
  )

  -- where each was so, and what was set is so, each is so
  pub each_set : (P : A → Type 0) (xs : List A) (i : ℕ) (new : A) → P new → Each P xs → Each P (set xs i new)
  each_set P xs i new is each j x at = by (get_set xs i j new x at)
    where
      by : ((j ≡ i) × (new ≡ x)) ⊎ ((j ≢ i) × (slice_get xs j ≡ Some x)) → P x
      by (inl (here, same)) = subst P same is
      by (inr (apart, there)) = each j x there
