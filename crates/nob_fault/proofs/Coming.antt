-- Only parcels that went in come out.
use Rattle.std.proofs.Common.{◌≡◌, ℕ, suc, List, [], ◌∷◌, Option, Some, None, ap, ⊎_elim, ◌⊎◌, inl, inr, arith}
use Rattle.std.specs.Prelude.{Contains}
use Rattle.std.proofs.lemmas.List.Elements.{Contains-append_cases, Contains-push_cases}
use Rattle.nob_link.specs.declared.parcel.Parcel.{Parcel}
use Rattle.nob_link.specs.declared.parcel.Parcel.TheVariants.{Frame, End}
use Rattle.nob_fault.specs.declared.effect.Effect.{Effect}
use Rattle.nob_fault.specs.declared.effect.Effect.TheVariants.{Lose, Go, Twice, Keep}
use Rattle.nob_fault.specs.Table.{listed, given_by, kept_by}
use Rattle.nob_fault.specs.Shims.{shim_after, effect_at, outcome, output}
use Rattle.nob_fault.specs.Laws.{OnlyWhatCame}

-- nothing is in no list
nowhere : (y : Parcel) {A : Type 0} → Contains [] y → A
nowhere y c = absurd (omega (arith, c.1))

-- the first is in its list
here : (x : Parcel) (xs : List Parcel) (y : Parcel) → x ≡ y → Contains (x ∷ xs) y
here x xs y e = (0, omega arith, e)

-- what is in a list is in one with one more in front
there : (x : Parcel) (xs : List Parcel) (y : Parcel) → Contains xs y → Contains (x ∷ xs) y
there x xs y c = (suc c.0, omega (arith, c.1), c.2)

-- what is in a list is its first, or in the rest
front : (x : Parcel) (xs : List Parcel) (y : Parcel) → Contains (x ∷ xs) y → (x ≡ y) ⊎ Contains xs y
front x xs y c = ⊎_elim (λ one. ⊎_elim (λ none. nowhere y none) (λ e. inl e) (Contains-push_cases [] x y one)) (λ rest. inr rest)
    (Contains-append_cases (x ∷ []) xs y c)

-- what is listed is what is kept back
listed_kept : (kept : Option Parcel) (y : Parcel) → Contains (listed kept) y → kept ≡ Some y
listed_kept None y c = nowhere y c
listed_kept (Some x) y c = ⊎_elim (λ e. ap (λ z. Some z) e) (λ none. nowhere y none) (front x [] y c)

module _ (earlier : List Parcel) (kept : Option Parcel) (came : (x : Parcel) → kept ≡ Some x → Contains earlier x) (parcel : Parcel) where
  -- what is kept back after a frame came before, or is that frame
  kept_by_came : (effect : Effect) (y : Parcel) → kept_by effect kept parcel ≡ Some y → Contains (parcel ∷ earlier) y
  kept_by_came Lose y e = there parcel earlier y (came y e)
  kept_by_came Go y e = cc
  kept_by_came Twice y e = cc
  kept_by_came Keep y e = here parcel earlier y cc

  -- what is kept back came
  listed_came : (y : Parcel) → Contains (listed kept) y → Contains (parcel ∷ earlier) y
  listed_came y c = there parcel earlier y (came y (listed_kept kept y c))

  -- what comes out at a frame came before, or is that frame
  given_by_came : (effect : Effect) (y : Parcel) → Contains (given_by effect kept parcel) y → Contains (parcel ∷ earlier) y
  given_by_came Lose y c = nowhere y c
  given_by_came Go y c = ⊎_elim (here parcel earlier y) (listed_came y) (front parcel (listed kept) y c)
  given_by_came Twice y c = ⊎_elim (here parcel earlier y)
      (λ rest. ⊎_elim (here parcel earlier y) (listed_came y) (front parcel (listed kept) y rest))
      (front parcel (parcel ∷ listed kept) y c)
  given_by_came Keep y c = listed_came y c

-- what is kept back came
kept_came : (words : List ℕ) (parcels : List Parcel) (y : Parcel) → (shim_after words parcels).kept ≡ Some y → Contains parcels y
kept_came words [] y e = cc
kept_came words (End ∷ earlier) y e = cc
kept_came words (Frame stamp frame ∷ earlier) y e =
    let shim = shim_after words earlier in kept_by_came earlier shim.kept (kept_came words earlier) (Frame stamp frame) (effect_at shim) y e

-- what comes out at a parcel came
outcome_came : (words : List ℕ) (parcel : Parcel) (earlier : List Parcel) (y : Parcel)
    → Contains (outcome (shim_after words earlier) parcel) y → Contains (parcel ∷ earlier) y
outcome_came words End earlier y c =
    let shim = shim_after words earlier in
    ⊎_elim (listed_came earlier shim.kept (kept_came words earlier) End y) (here End earlier y) (Contains-push_cases (listed shim.kept) End y c)
outcome_came words (Frame stamp frame) earlier y c =
    let shim = shim_after words earlier in given_by_came earlier shim.kept (kept_came words earlier) (Frame stamp frame) (effect_at shim) y c

-- only parcels that went in come out
pub only_what_came : OnlyWhatCame
only_what_came words [] y c = c
only_what_came words (parcel ∷ earlier) y c =
    let shim = shim_after words earlier in
    ⊎_elim (λ before. there parcel earlier y (only_what_came words earlier y before)) (outcome_came words parcel earlier y)
    (Contains-append_cases (output words earlier) (outcome shim parcel) y c)
