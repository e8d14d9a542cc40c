-- Lists: what holds of all elements, elements at a place, and beginnings.
use Rattle.std.proofs.Common.{◌≡◌, ◌||◌, Bool, true, false, cond, filter, ℕ, zero, suc, List, [], ◌∷◌, ◌++◌, length, map, Some, None, refl, sym, ap, subst, ◌∙◌, append_assoc}
use Rattle.std.specs.List.{AllByRecursion, slice_get, list_any}
use Rattle.nob_model_session.specs.Pair.{IsBeginning}

-- ---- all elements

pub all_append : {X : Type 0} (P : X → Type 0) (xs ys : List X) → AllByRecursion P xs → AllByRecursion P ys → AllByRecursion P (xs ++ ys)
all_append P [] ys xall yall = yall
all_append P (x ∷ xs) ys xall yall = (xall.0, all_append P xs ys xall.1 yall)

-- what holds of each element of a list holds of what is made of it
pub all_map : {X Y : Type 0} (P : X → Type 0) (Q : Y → Type 0) (f : X → Y) → ((x : X) → P x → Q (f x)) → (xs : List X) → AllByRecursion P xs → AllByRecursion Q (map f xs)
all_map P Q f step [] all = tt
all_map P Q f step (x ∷ xs) all = (step x all.0, all_map P Q f step xs all.1)

-- what holds of all elements holds of the one at a place
pub all_at : {X : Type 0} (P : X → Type 0) (xs : List X) (k : ℕ) (x : X) → AllByRecursion P xs → slice_get xs k ≡ Some x → P x
all_at P [] k x all is = absurd (none_some x is)
  where
    none_some : {X : Type 0} (x : X) → None ≡ Some x → ⊥
    none_some x e = cc
all_at P (y ∷ xs) zero x all is = subst P (some_same y x is) all.0
  where
    some_same : {X : Type 0} (x y : X) → Some x ≡ Some y → x ≡ y
    some_same x y e = cc
all_at P (y ∷ xs) (suc k) x all is = all_at P xs k x all.1 is

pub all_split : {X : Type 0} (P : X → Type 0) (xs ys : List X) → AllByRecursion P (xs ++ ys) → AllByRecursion P xs × AllByRecursion P ys
all_split P [] ys all = (tt, all)
all_split P (x ∷ xs) ys all = let rest = all_split P xs ys all.1 in ((all.0, rest.0), rest.1)

pub all_both : {X : Type 0} (P Q R : X → Type 0) → ((x : X) → P x → Q x → R x) → (xs : List X) → AllByRecursion P xs → AllByRecursion Q xs → AllByRecursion R xs
all_both P Q R both [] ps qs = tt
all_both P Q R both (x ∷ xs) ps qs = (both x ps.0 qs.0, all_both P Q R both xs ps.1 qs.1)

passes_if : {X : Type 0} (test : X → Bool) (b : Bool) (x : X) (xs : List X) → test x ≡ b → AllByRecursion (λ x. test x ≡ true) xs → AllByRecursion (λ x. test x ≡ true) (cond b (x ∷ xs) xs)
passes_if test true x xs is rest = (is, rest)
passes_if test false x xs is rest = rest

-- what passes a test
pub all_pass : {X : Type 0} (test : X → Bool) (xs : List X) → AllByRecursion (λ x. test x ≡ true) (filter test xs)
all_pass test [] = tt
all_pass test (x ∷ xs) = passes_if test (test x) x (filter test xs) refl (all_pass test xs)

unfilter_if : {X : Type 0} (P : X → Type 0) (test : X → Bool) (b : Bool) (x : X) (xs kept : List X) → test x ≡ b → AllByRecursion P (cond b (x ∷ kept) kept) → (AllByRecursion P kept → AllByRecursion (λ x. test x ≡ true → P x) xs) → AllByRecursion (λ x. test x ≡ true → P x) (x ∷ xs)
unfilter_if P test true x xs kept is all rest = (λ passes. all.0, rest all.1)
unfilter_if P test false x xs kept is all rest = (λ passes. absurd (let clash : true ≡ false = sym passes ∙ is in cc), rest all)

-- what holds of all that pass a test holds of each that passes it
pub all_unfilter : {X : Type 0} (P : X → Type 0) (test : X → Bool) (xs : List X) → AllByRecursion P (filter test xs) → AllByRecursion (λ x. test x ≡ true → P x) xs
all_unfilter P test [] all = tt
all_unfilter P test (x ∷ xs) all = unfilter_if P test (test x) x xs (filter test xs) refl all (all_unfilter P test xs)

-- ---- elements at a place

none_some : {X : Type 0} (x : X) → None ≡ Some x → ⊥
none_some x e = cc

pub some_same : {X : Type 0} (x y : X) → Some x ≡ Some y → x ≡ y
some_same x y e = cc

-- an element of a beginning stands at its place in the whole
pub place_in_whole : {X : Type 0} (xs rest whole : List X) (k : ℕ) (x : X) → xs ++ rest ≡ whole → slice_get xs k ≡ Some x → slice_get whole k ≡ Some x
place_in_whole xs rest whole k x is at = subst (λ ys. slice_get ys k ≡ Some x) is (behind xs rest k x at)
  where
    behind : {X : Type 0} (xs rest : List X) (k : ℕ) (x : X) → slice_get xs k ≡ Some x → slice_get (xs ++ rest) k ≡ Some x
    behind [] rest k x at = absurd (none_some x at)
    behind (y ∷ xs) rest zero x at = at
    behind (y ∷ xs) rest (suc k) x at = behind xs rest k x at

-- what stands at a place among what was made of a list was made of what stands there in the list
pub place_before : {X Y : Type 0} (f : X → Y) (xs : List X) (k : ℕ) (y : Y) → slice_get (map f xs) k ≡ Some y → (x : X) × (slice_get xs k ≡ Some x) × (f x ≡ y)
place_before f [] k y at = absurd (none_some y at)
place_before f (x ∷ xs) zero y at = (x, refl, some_same (f x) y at)
place_before f (x ∷ xs) (suc k) y at = place_before f xs k y at

-- what stands right behind a beginning is the first of the rest
pub next_of_rest : {X : Type 0} (xs rest : List X) (x : X) → slice_get (xs ++ rest) (length xs) ≡ Some x → (more : List X) × (rest ≡ x ∷ more)
next_of_rest [] [] x at = absurd (none_some x at)
next_of_rest [] (y ∷ rest) x at = (rest, ap (λ z. z ∷ rest) (some_same y x at))
next_of_rest (z ∷ xs) rest x at = next_of_rest xs rest x at

-- ---- beginnings

-- a beginning stays one where the whole grows
pub begins_longer : {X : Type 0} (xs whole more : List X) → IsBeginning xs whole → IsBeginning xs (whole ++ more)
begins_longer xs whole more begins = (begins.0 ++ more, sym (append_assoc xs begins.0 more) ∙ ap (λ ys. ys ++ more) begins.1)

-- a beginning with the next element is a beginning
pub begins_further : {X : Type 0} (xs whole : List X) (x : X) → IsBeginning xs whole → slice_get whole (length xs) ≡ Some x → IsBeginning (xs ++ x ∷ []) whole
begins_further xs whole x begins at =
    let next = next_of_rest xs begins.0 x (subst (λ ys. slice_get ys (length xs) ≡ Some x) (sym begins.1) at) in
    (next.0, append_assoc xs (x ∷ []) next.0 ∙ ap (λ ys. xs ++ ys) (sym next.1) ∙ begins.1)

-- ---- whether any element passes a test

pub or_false : (b : Bool) → (b || false) ≡ b
or_false true = refl
or_false false = refl

-- a list with one element more has one that passes if it had one before, or if that one does
pub any_push : {X : Type 0} (test : X → Bool) (xs : List X) (x : X) → list_any test (xs ++ x ∷ []) ≡ (list_any test xs || test x)
any_push test [] x = or_false (test x)
any_push test (y ∷ xs) x = ap (λ (b : Bool). test y || b) (any_push test xs x) ∙ or_or (test y) (list_any test xs) (test x)
  where
    or_or : (a b c : Bool) → (a || (b || c)) ≡ ((a || b) || c)
    or_or true b c = refl
    or_or false b c = refl
