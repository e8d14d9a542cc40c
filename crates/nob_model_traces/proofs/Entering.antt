-- The entries of a list up to a place.
use Rattle.std.proofs.Common.{◌≡◌, ℕ, ◌+◌, ◌-◌, ◌<◌, length-drop, List, [], ◌∷◌, ◌++◌, length, take, drop, get_or, map, reverse, slice_get, Some, refl, sym, ap, ◌∙◌, arith}
use Prim.Native.Nat.{suc}
use Rattle.std.proofs.lemmas.List.{reverse-append, take-append-drop, take_all, map-append}
use Rattle.std.proofs.lemmas.Option.{slice_get_read}
use Rattle.nob_model_traces.proofs.Places.{take_some, left_some}

-- an element that was read stands at its place
pub read : {X : Type 0} (xs : List X) (i : ℕ) (x : X) → i < length xs → x ≡ get_or xs i x → slice_get xs i ≡ Some x
read xs i x less is = slice_get_read xs (length xs) i x refl less is

pub further : (i : ℕ) → suc i ≡ i + 1
further i = omega arith

-- one more is taken
pub take_one : {X : Type 0} (xs : List X) (i : ℕ) (x : X) → slice_get xs i ≡ Some x → take (i + 1) xs ≡ take i xs ++ x ∷ []
take_one xs i x is = ap (λ (n : ℕ). take n xs) (sym (further i)) ∙ take_some xs i x is

-- read from the end it is the first
pub newest : {X : Type 0} (xs : List X) (i : ℕ) (x : X) → slice_get xs i ≡ Some x → reverse (take (i + 1) xs) ≡ x ∷ reverse (take i xs)
newest xs i x is = ap reverse (take_one xs i x is) ∙ reverse-append (take i xs) (x ∷ [])

-- and so is what is made of it
pub newest_of : {X Y : Type 0} (f : X → Y) (xs : List X) (i : ℕ) (x : X) → slice_get xs i ≡ Some x → reverse (map f (take (i + 1) xs)) ≡ f x ∷ reverse (map f (take i xs))
newest_of f xs i x is = ap (λ ys. reverse (map f ys)) (take_one xs i x is) ∙ ap reverse (map-append f (take i xs) (x ∷ [])) ∙ reverse-append (map f (take i xs)) (f x ∷ [])

-- what stands before, the element, and what stands behind
pub parted : {X : Type 0} (xs : List X) (i : ℕ) (x : X) → slice_get xs i ≡ Some x → xs ≡ take i xs ++ x ∷ drop (suc i) xs
parted xs i x is = sym (take-append-drop i xs) ∙ ap (λ ys. take i xs ++ ys) (left_some xs i x is)

-- at the end it is all
pub whole : {X : Type 0} (xs : List X) (i : ℕ) → i ≡ length xs → take i xs ≡ xs
whole xs i is = take_all i xs (omega (arith, is))

-- what stands behind the first
pub behind : {X : Type 0} (xs : List X) → take (length xs - 1) (drop 1 xs) ≡ drop 1 xs
behind xs = take_all (length xs - 1) (drop 1 xs) (let count : length (drop 1 xs) ≡ length xs - 1 = length-drop 1 xs in omega (arith, count))
