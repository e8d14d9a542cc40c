-- Lists that are turned round.
use Rattle.std.proofs.Common.{◌≡◌, ◌&&◌, ◌||◌, Bool, true, false, List, [], ◌∷◌, ◌++◌, refl, sym, ap, ◌∙◌}
use Rattle.std.specs.Prelude.{reverse}
use Rattle.std.specs.List.{list_any, list_all}
use Rattle.std.proofs.lemmas.Grind.{reverse_onto}
use Rattle.nob_check_index.proofs.Keys.{among_last}

-- the first comes last
pub turned : {A : Type 0} (x : A) (xs : List A) → reverse (x ∷ xs) ≡ reverse xs ++ x ∷ []
turned x xs = reverse_onto xs x []

all_last : {A : Type 0} (test : A → Bool) (xs : List A) (x : A) → list_all test (xs ++ x ∷ []) ≡ (test x && list_all test xs)
all_last test [] x = refl
all_last test (y ∷ xs) x = ap (λ (b : Bool). test y && b) (all_last test xs x) ∙ swapped (test y) (test x) (list_all test xs)
  where
    swapped : (a b c : Bool) → (a && (b && c)) ≡ (b && (a && c))
    swapped true true c = refl
    swapped true false c = refl
    swapped false true c = refl
    swapped false false c = refl

-- what holds of each holds of each
pub all_turned : {A : Type 0} (test : A → Bool) (xs : List A) → list_all test (reverse xs) ≡ list_all test xs
all_turned test [] = refl
all_turned test (x ∷ xs) = ap (list_all test) (turned x xs) ∙ all_last test (reverse xs) x ∙ ap (λ (b : Bool). test x && b) (all_turned test xs)

-- what holds of one holds of one
pub any_turned : {A : Type 0} (test : A → Bool) (xs : List A) → list_any test (reverse xs) ≡ list_any test xs
any_turned test [] = refl
any_turned test (x ∷ xs) = ap (list_any test) (turned x xs) ∙ among_last test (reverse xs) x ∙ ap (λ (b : Bool). test x || b) (any_turned test xs)
