-- What becomes of places in which payloads are kept.
use Rattle.std.specs.Prelude.{ℕ, zero, suc, ◌+◌, ◌≤◌, List, [], ◌∷◌, ◌++◌, drop, replicate, Option, Some, None}
use Rattle.nob_model_session.specs.End.{last_item}

-- these places with x in the one behind the first `at`, if there is such a place and it is empty
abbrev pub put_at : {A : Type 0} → (at : ℕ) → A → List (Option A) → List (Option A)
put_at at x [] = []
put_at zero x (None ∷ more) = Some x ∷ more
put_at zero x (Some y ∷ more) = Some y ∷ more
put_at (suc at) x (place ∷ more) = place ∷ put_at at x more

-- the payload in the first of these places, if it is filled
abbrev pub first_filled : {A : Type 0} → List (Option A) → Option A
first_filled [] = None
first_filled (place ∷ more) = place

-- these places once the first so many are accepted: the others move up, and as many empty ones stand behind them
abbrev pub moved_up : {A : Type 0} → ℕ → List (Option A) → List (Option A)
moved_up count places = drop count places ++ replicate count None

-- of these places, for the numbers from n on, none above the greatest number of an item is filled
abbrev pub AreLow : {A : Type 0} → (n : ℕ) → List (Option A) → Type 0
AreLow n [] = Unit {0}
AreLow n (None ∷ more) = AreLow (n + 1) more
AreLow n (Some x ∷ more) = (n ≤ last_item) × AreLow (n + 1) more
