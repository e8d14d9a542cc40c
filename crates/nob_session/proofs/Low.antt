-- Of places that are filled: their numbers, how many there are, and how many are accepted.
use Rattle.std.proofs.Common.{◌≡◌, ℕ, zero, suc, ◌+◌, ◌<◌, ◌≤◌, true, List, [], ◌∷◌, ◌++◌, length, take, drop, replicate, Option, Some, None, arith, refl, ap, subst}
use Rattle.std.proofs.lemmas.List.{length-append, length-drop, length-replicate}
use Rattle.std.proofs.lemmas.Bool.Decides.{nat_tests}
use Rattle.nob_model_session.specs.End.{filled, is_in_reach, last_item}
use Rattle.nob_model_session.specs.Right.{in_a_row}
use Rattle.nob_session.specs.Keeping.{AreLow, put_at, moved_up}

-- a place more doesn't move the others
pub put_length : {A : Type 0} (at : ℕ) (x : A) (places : List (Option A)) → length (put_at at x places) ≡ length places
put_length at x [] = refl
put_length zero x (None ∷ more) = refl
put_length zero x (Some y ∷ more) = refl
put_length (suc at) x (place ∷ more) = ap suc (put_length at x more)

-- there are as many places as before
pub moved_length : {A : Type 0} (count : ℕ) (places : List (Option A)) → count ≤ length places → length (moved_up count places) ≡ length places
moved_length {A} count places few =
    let both = length-append {A = Option A} (drop count places) (replicate count None) in
    let left = length-drop count places in
    let behind = length-replicate {A = Option A} count None in
    omega (arith, few, both, left, behind)

-- as many items as are in the row
pub row_taken : {A : Type 0} (most : ℕ) (places : List (Option A)) → length (filled (take (in_a_row most places) places)) ≡ in_a_row most places
row_taken zero places = refl
row_taken (suc most) [] = refl
row_taken (suc most) (None ∷ more) = refl
row_taken (suc most) (Some x ∷ more) = ap suc (row_taken most more)

-- empty places are low
pub low_none : (A : Type 0) (n count : ℕ) → AreLow {A = A} n (replicate count None)
low_none A n zero = tt
low_none A n (suc count) = low_none A (n + 1) count

-- a payload with a low number keeps the places low
pub low_put : {A : Type 0} (n at : ℕ) (x : A) (places : List (Option A)) → n + at ≤ last_item → AreLow n places → AreLow n (put_at at x places)
low_put n at x [] low before = tt
low_put n zero x (None ∷ more) low before = (omega (arith, low), before)
low_put n zero x (Some y ∷ more) low before = before
low_put n (suc at) x (None ∷ more) low before = low_put (n + 1) at x more (omega (arith, low)) before
low_put n (suc at) x (Some y ∷ more) low before = (before.0, low_put (n + 1) at x more (omega (arith, low)) before.1)

low_behind : {A : Type 0} (n count : ℕ) (places : List (Option A)) → AreLow n places → AreLow n (places ++ replicate count None)
low_behind {A} n count [] before = low_none A n count
low_behind n count (None ∷ more) before = low_behind (n + 1) count more before
low_behind n count (Some x ∷ more) before = (before.0, low_behind (n + 1) count more before.1)

low_left : {A : Type 0} (n count : ℕ) (places : List (Option A)) → AreLow n places → AreLow (n + count) (drop count places)
low_left n zero places before = subst (λ (m : ℕ). AreLow m places) (omega arith) before
low_left n (suc count) [] before = tt
low_left n (suc count) (None ∷ more) before = subst (λ (m : ℕ). AreLow m (drop count more)) (omega arith) (low_left (n + 1) count more before)
low_left n (suc count) (Some x ∷ more) before = subst (λ (m : ℕ). AreLow m (drop count more)) (omega arith) (low_left (n + 1) count more before.1)

-- places that move up stay low
pub low_moved : {A : Type 0} (n count : ℕ) (places : List (Option A)) → AreLow n places → AreLow (n + count) (moved_up count places)
low_moved n count places before = low_behind (n + count) count (drop count places) (low_left n count places before)

-- what is accepted has low numbers
pub row_low : {A : Type 0} (n most : ℕ) (places : List (Option A)) → n ≤ last_item + 1 → AreLow n places → n + in_a_row most places ≤ last_item + 1
row_low n zero places low before = omega (arith, low)
row_low n (suc most) [] low before = omega (arith, low)
row_low n (suc most) (None ∷ more) low before = omega (arith, low)
row_low n (suc most) (Some x ∷ more) low before = let rest = row_low (n + 1) most more (omega (arith, before.0)) before.1 in omega (arith, rest)

-- what is in reach has a low number, behind those that are accepted
pub reach_low : (accepted n : ℕ) → is_in_reach accepted n ≡ true → (accepted < n) × (n ≤ last_item)
reach_low accepted n reach = (grind (arith, nat_tests, reach), grind (arith, nat_tests, reach))

-- and is at most 64 behind them
pub reach_near : (accepted n : ℕ) → is_in_reach accepted n ≡ true → n ≤ accepted + 64
reach_near accepted n reach = grind (arith, nat_tests, reach)
