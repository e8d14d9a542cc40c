-- Lists of which some element passes a test.
use Rattle.std.proofs.Common.{◌≡◌, ◌||◌, Bool, true, false, cond, List, [], ◌∷◌, ◌++◌, map, filter, find, Option, Some, None, refl, ◌∙◌}
use Rattle.std.specs.List.{AllByRecursion, list_any}
use Rattle.std.proofs.lemmas.List.Folds.{list_any-append}
use Rattle.std.proofs.lemmas.Bool.{or_left, or_right, or_from}

pub or_both : (a b c d : Bool) → (a ≡ true → c ≡ true) → (b ≡ true → d ≡ true) → (a || b) ≡ true → (c || d) ≡ true
or_both true b c d first second is = or_left c d (first refl)
or_both false b c d first second is = or_right c d (second is)

-- of what is made of a list
pub any_mapped : {X Y : Type 0} (test : X → Bool) (later : Y → Bool) (f : X → Y) → ((x : X) → test x ≡ true → later (f x) ≡ true) → (xs : List X) → list_any test xs ≡ true → list_any later (map f xs) ≡ true
any_mapped test later f step [] is = is
any_mapped test later f step (x ∷ xs) is = or_both (test x) (list_any test xs) (later (f x)) (list_any later (map f xs)) (step x) (any_mapped test later f step xs) is

-- by another test
pub any_weaker : {X : Type 0} (test later : X → Bool) → ((x : X) → test x ≡ true → later x ≡ true) → (xs : List X) → list_any test xs ≡ true → list_any later xs ≡ true
any_weaker test later step [] is = is
any_weaker test later step (x ∷ xs) is = or_both (test x) (list_any test xs) (later x) (list_any later xs) (step x) (any_weaker test later step xs) is

filter_step : {X : Type 0} (test : X → Bool) (x : X) (kept : List X) (t k before : Bool) → test x ≡ t → (t ≡ true → k ≡ true) → (before ≡ true → list_any test kept ≡ true) → (t || before) ≡ true → list_any test (cond k (x ∷ kept) kept) ≡ true
filter_step test x kept true true before passes keeps rest is = or_left (test x) (list_any test kept) passes
filter_step test x kept true false before passes keeps rest is = absurd (let clash : false ≡ true = keeps refl in cc)
filter_step test x kept false true before passes keeps rest is = or_right (test x) (list_any test kept) (rest is)
filter_step test x kept false false before passes keeps rest is = rest is

-- of what is kept of a list
pub any_filter : {X : Type 0} (test keep : X → Bool) → ((x : X) → test x ≡ true → keep x ≡ true) → (xs : List X) → list_any test xs ≡ true → list_any test (filter keep xs) ≡ true
any_filter test keep step [] is = is
any_filter test keep step (x ∷ xs) is = filter_step test x (filter keep xs) (test x) (keep x) (list_any test xs) refl (step x) (any_filter test keep step xs) is

-- of a list with one element more
pub any_push : {X : Type 0} (test : X → Bool) (xs : List X) (x : X) → list_any test xs ≡ true → list_any test (xs ++ x ∷ []) ≡ true
any_push test xs x is = list_any-append test xs (x ∷ []) ∙ or_left (list_any test xs) _ is

filtered_if : {X : Type 0} (P : X → Type 0) (b : Bool) (x : X) (kept : List X) → (b ≡ true → P x) → AllByRecursion P kept → AllByRecursion P (cond b (x ∷ kept) kept)
filtered_if P true x kept its rest = (its refl, rest)
filtered_if P false x kept its rest = rest

-- what holds of each that passes holds of all that are kept
pub all_filtered : {X : Type 0} (P : X → Type 0) (keep : X → Bool) (xs : List X) → AllByRecursion (λ x. keep x ≡ true → P x) xs → AllByRecursion P (filter keep xs)
all_filtered P keep [] all = tt
all_filtered P keep (x ∷ xs) all = filtered_if P (keep x) x (filter keep xs) all.0 (all_filtered P keep xs all.1)

none_step : {X : Type 0} (x : X) (rest : Option X) (b : Bool) → cond b (Some x) rest ≡ None → (b ≡ false) × (rest ≡ None)
none_step x rest true e = absurd (some_none x e)
  where
    some_none : {X : Type 0} (x : X) → Some x ≡ None → ⊥
    some_none x e = cc
none_step x rest false e = (refl, e)

-- where none is found none passes
pub none_found : {X : Type 0} (test : X → Bool) (xs : List X) → find test xs ≡ None → AllByRecursion (λ x. test x ≡ false) xs
none_found test [] e = tt
none_found test (x ∷ xs) e = let parts = none_step x (find test xs) (test x) e in (parts.0, none_found test xs parts.1)

-- where none passes, none of the list does
pub any_none : {X : Type 0} (test : X → Bool) (xs : List X) → AllByRecursion (λ x. test x ≡ false) xs → list_any test xs ≡ false
any_none test [] all = refl
any_none test (x ∷ xs) all = or_from (test x) (list_any test xs) all.0 (any_none test xs all.1)
