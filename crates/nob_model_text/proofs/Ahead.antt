-- What is left of a list from a place on.
use Rattle.std.proofs.Common.{◌≡◌, ℕ, suc, ◌+◌, ◌<◌, List, ◌∷◌, length, drop, get_or, sym, ap, ◌∙◌, add-one}
use Rattle.std.proofs.Math.Seq.{drop-cons}

-- it begins with what stands there
pub first_ahead : {A : Type 0} (xs : List A) (i : ℕ) (x : A) → i < length xs → x ≡ get_or xs i x → drop i xs ≡ x ∷ drop (i + 1) xs
first_ahead xs i x lt same = drop-cons xs i x lt ∙ ap (λ y. y ∷ drop (suc i) xs) (sym same) ∙ ap (λ n. x ∷ drop n xs) (sym (add-one i))
