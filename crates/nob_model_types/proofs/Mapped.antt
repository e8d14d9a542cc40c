-- A list of which one element after the other is changed.
use Rattle.std.proofs.Common.{◌≡◌, ℕ, ◌+◌, ◌<◌, List, [], ◌∷◌, ◌++◌, length, map, take, drop, get_or, refl, ap, ◌∙◌, arith}
use Prim.Native.Nat.{zero, suc}
use lib.ListN.{set}

changed_at : {A : Type 0} (f : A → A) (xs : List A) (i : ℕ) (x : A) → i < length xs → x ≡ get_or (map f (take i xs) ++ drop i xs) i x → set (map f (take i xs) ++ drop i xs) i (f x) ≡ map f (take (suc i) xs) ++ drop (suc i) xs
changed_at f [] i x lt is = absurd (omega (arith, lt))
changed_at f (y ∷ xs) zero x lt is = ap (λ z. f z ∷ xs) is
changed_at f (y ∷ xs) (suc i) x lt is = ap (λ zs. f y ∷ zs) (changed_at f xs i x (omega (arith, lt)) is)

-- the next element is changed
pub changed_next : {A : Type 0} (f : A → A) (xs now : List A) (i : ℕ) (x y : A) → now ≡ map f (take i xs) ++ drop i xs → i < length xs → x ≡ get_or now i x → y ≡ f x → set now i y ≡ map f (take (i + 1) xs) ++ drop (i + 1) xs
changed_next {A} f xs now i x y are lt is after =
    let more : suc i ≡ i + 1 = omega arith in
    ap (set now i) after ∙ ap (λ (zs : List A). set zs i (f x)) are
    ∙ changed_at f xs i x lt (is ∙ ap (λ (zs : List A). get_or zs i x) are)
    ∙ ap (λ k. map f (take k xs) ++ drop k xs) more

-- behind the elements that were changed stand those that weren't
get_behind : {A : Type 0} (f : A → A) (xs : List A) (i : ℕ) (x : A) → i < length xs → get_or (map f (take i xs) ++ drop i xs) i x ≡ get_or xs i x
get_behind f [] i x lt = absurd (omega (arith, lt))
get_behind f (y ∷ xs) zero x lt = refl
get_behind f (y ∷ xs) (suc i) x lt = get_behind f xs i x (omega (arith, lt))

-- the next element
pub here_is : {A : Type 0} (f : A → A) (xs now : List A) (i : ℕ) (x : A) → now ≡ map f (take i xs) ++ drop i xs → i < length xs → x ≡ get_or now i x → x ≡ get_or xs i x
here_is {A} f xs now i x are lt is = is ∙ ap (λ (zs : List A). get_or zs i x) are ∙ get_behind f xs i x lt
