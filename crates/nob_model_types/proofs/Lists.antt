-- Steps of a function that goes down a list and makes another of it.
use Rattle.std.proofs.Common.{◌≡◌, ℕ, ◌-◌, ◌≤◌, Bool, true, false, ◌==◌, List, [], ◌∷◌, length, get_or, take, drop, map, refl, ap, ◌∙◌, sym, subst, IsTrue, arith}
use Rattle.std.proofs.lemmas.List.{take_all}
use Rattle.std.proofs.lemmas.Bool.Decides.{nat_tests}

-- all that stands behind the first element
pub rest_is : {A : Type 0} (xs : List A) → take (length xs - 1) (drop 1 xs) ≡ drop 1 xs
rest_is [] = refl
rest_is (x ∷ xs) = take_all _ xs (omega arith)

-- a list with a first element is that and the rest
pub first_and_rest : {A : Type 0} (xs : List A) (x : A) → 1 ≤ length xs → x ≡ get_or xs 0 x → xs ≡ x ∷ drop 1 xs
first_and_rest [] x long is = absurd (omega (arith, long))
first_and_rest (y ∷ ys) x long is = ap (λ z. z ∷ ys) (sym is)

-- an element and what is made of the rest
pub map_step : {A B : Type 0} (f : A → B) (xs : List A) (x : A) (y : B) (ys made : List B) → 1 ≤ length xs → x ≡ get_or xs 0 x → y ≡ f x → ys ≡ map f (take (length xs - 1) (drop 1 xs)) → made ≡ y ∷ ys → made ≡ map f xs
map_step f xs x y ys made long is first rest e =
    e ∙ ap (λ z. z ∷ ys) first ∙ ap (λ zs. f x ∷ zs) (rest ∙ ap (λ zs. map f zs) (rest_is xs)) ∙ ap (λ zs. map f zs) (sym (first_and_rest xs x long is))

-- the same where an empty list was told apart by a test
pub map_step_by : {A B : Type 0} (f : A → B) (xs : List A) (x : A) (y : B) (ys made : List B) (empty : Bool) → empty ≡ false → empty ≡ (length xs == 0) → x ≡ get_or xs 0 x → y ≡ f x → ys ≡ map f (drop 1 xs) → made ≡ y ∷ ys → made ≡ map f xs
map_step_by f [] x y ys made empty full is first here rest e = absurd (grind (arith, nat_tests, full, is))
map_step_by f (z ∷ zs) x y ys made empty full is first here rest e =
    e ∙ ap (λ w. w ∷ ys) here ∙ ap (λ ws. f x ∷ ws) rest ∙ ap (λ w. f w ∷ map f zs) first
