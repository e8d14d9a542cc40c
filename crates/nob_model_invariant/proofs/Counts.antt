-- How often something stands in a list, by what is done to the list.
use Rattle.std.proofs.Common.{◌≡◌, ℕ, ◌+◌, ◌≤◌, ◌||◌, not, Bool, true, false, cond, List, [], ◌∷◌, ◌++◌, length, map, filter, find, Some, None, if◌then◌else◌, refl, ap, ◌∙◌, arith}
use Rattle.std.specs.List.{AllByRecursion, list_any}
use Rattle.std.proofs.lemmas.Bool.{or_right}
use Rattle.std.proofs.lemmas.List.{length-append}
use Rattle.std.proofs.lemmas.List.Elements.{filter-append}
use Rattle.nob_model_work.specs.Work.{without_first}
use Rattle.nob_model_invariant.specs.Counting.{count_of}

-- 1 where a test holds
abbrev pub one_if : Bool → ℕ
one_if test = if test then 1 else 0

pub none_some : {A : Type 0} (x : A) → None ≡ Some x → ⊥
none_some x e = cc

some_same : {A : Type 0} (x y : A) → Some x ≡ Some y → x ≡ y
some_same x y e = cc

module _ {A : Type 0} (test : A → Bool) where
  -- one at the head
  pub count_first : (x : A) (xs : List A) → count_of test (x ∷ xs) ≡ one_if (test x) + count_of test xs
  count_first x xs = elim (test x) as (λ b. length (cond b (x ∷ filter test xs) (filter test xs)) ≡ one_if b + length (filter test xs)) [ true ↦ omega arith | false ↦ omega arith ]

  -- two lists
  pub count_append : (xs ys : List A) → count_of test (xs ++ ys) ≡ count_of test xs + count_of test ys
  count_append xs ys = ap length (filter-append test xs ys) ∙ length-append (filter test xs) (filter test ys)

  -- one at the end
  pub count_push : (xs : List A) (x : A) → count_of test (xs ++ x ∷ []) ≡ count_of test xs + one_if (test x)
  count_push xs x = let both = count_append xs (x ∷ []) in let one = count_first x [] in omega (arith, both, one)

  -- what is left of a list
  pub count_filter : (keep : A → Bool) (xs : List A) → count_of test (filter keep xs) ≤ count_of test xs
  count_filter keep [] = omega arith
  count_filter keep (x ∷ xs) =
      let rest = count_filter keep xs in
      let all = count_first x xs in
      let kept = count_first x (filter keep xs) in
      elim (keep x) as (λ b. count_of test (cond b (x ∷ filter keep xs) (filter keep xs)) ≤ count_of test (x ∷ xs)) [ true ↦ omega (arith, rest, all, kept) | false ↦ omega (arith, rest, all) ]

  -- without the first that a search finds
  pub count_without : (search : A → Bool) (xs : List A) (x : A) → find search xs ≡ Some x → count_of test xs ≡ count_of test (without_first search xs) + one_if (test x)
  count_without search [] x found = absurd (none_some x found)
  count_without search (y ∷ ys) x found =
      let all = count_first y ys in
      let left = count_first y (without_first search ys) in
      elim (search y) as (λ b. cond b (Some y) (find search ys) ≡ Some x → count_of test (y ∷ ys) ≡ count_of test (if b then ys else y ∷ without_first search ys) + one_if (test x)) [
        | true ↦ λ here. (let same : one_if (test y) ≡ one_if (test x) = ap (λ (z : A). one_if (test z)) (some_same y x here) in omega (arith, all, same))
        | false ↦ λ there. (let rest = count_without search ys x there in omega (arith, rest, all, left))
      ] found

  -- without all that a search would find
  pub count_dropped : (search : A → Bool) (xs : List A) (x : A) → find search xs ≡ Some x → count_of test (filter (λ y. not (search y)) xs) + one_if (test x) ≤ count_of test xs
  count_dropped search [] x found = absurd (none_some x found)
  count_dropped search (y ∷ ys) x found =
      let all = count_first y ys in
      let left = count_first y (filter (λ z. not (search z)) ys) in
      let fewer = count_filter (λ z. not (search z)) ys in
      elim (search y) as (λ b. cond b (Some y) (find search ys) ≡ Some x → count_of test (cond (not b) (y ∷ filter (λ z. not (search z)) ys) (filter (λ z. not (search z)) ys)) + one_if (test x) ≤ count_of test (y ∷ ys)) [
        | true ↦ λ here. (let same : one_if (test y) ≡ one_if (test x) = ap (λ (z : A). one_if (test z)) (some_same y x here) in omega (arith, all, same, fewer))
        | false ↦ λ there. (let rest = count_dropped search ys x there in omega (arith, rest, all, left))
      ] found

  -- what a search finds counts
  pub count_found : (xs : List A) (x : A) → find test xs ≡ Some x → 1 ≤ count_of test xs
  count_found [] x found = absurd (none_some x found)
  count_found (y ∷ ys) x found = elim (test y) as (λ b. cond b (Some y) (find test ys) ≡ Some x → 1 ≤ length (cond b (y ∷ filter test ys) (filter test ys))) [
    | true ↦ λ here. omega arith
    | false ↦ λ there. count_found ys x there
  ] found

  -- a change that leaves the test as it was
  pub count_mapped : (change : A → A) → ((x : A) → test (change x) ≡ test x) → (xs : List A) → count_of test (map change xs) ≡ count_of test xs
  count_mapped change same [] = refl
  count_mapped change same (x ∷ xs) =
      let rest = count_mapped change same xs in
      let before = count_first x xs in
      let after = count_first (change x) (map change xs) in
      let one : one_if (test (change x)) ≡ one_if (test x) = ap one_if (same x) in
      omega (arith, rest, before, after, one)

  -- none passes
  pub count_none : (xs : List A) → AllByRecursion (λ x. test x ≡ false) xs → count_of test xs ≡ 0
  count_none [] none = refl
  count_none (x ∷ xs) none =
      let rest = count_none xs none.1 in
      let all = count_first x xs in
      let one : one_if (test x) ≡ 0 = ap one_if none.0 in
      omega (arith, rest, all, one)

-- ---- what stands at all

either : (a b c d : Bool) → (a ≡ true → c ≡ true) → (b ≡ true → d ≡ true) → (a || b) ≡ true → (c || d) ≡ true
either true b true d f g e = refl
either true b false d f g e = absurd (let clash : false ≡ true = f refl in cc)
either false b true d f g e = refl
either false b false d f g e = g e

-- what stands in a list and keeps to a test stands in what is made of it
pub any_mapped : {A : Type 0} (test other : A → Bool) (change : A → A) → ((x : A) → test x ≡ true → other (change x) ≡ true) → (xs : List A) → list_any test xs ≡ true → list_any other (map change xs) ≡ true
any_mapped test other change step [] there = cc
any_mapped test other change step (x ∷ xs) there = either (test x) (list_any test xs) (other (change x)) (list_any other (map change xs)) (step x) (any_mapped test other change step xs) there

pub any_weaker : {A : Type 0} (test other : A → Bool) → ((x : A) → test x ≡ true → other x ≡ true) → (xs : List A) → list_any test xs ≡ true → list_any other xs ≡ true
any_weaker test other step [] there = cc
any_weaker test other step (x ∷ xs) there = either (test x) (list_any test xs) (other x) (list_any other xs) (step x) (any_weaker test other step xs) there

-- in what is left, where what passes is left
pub any_kept : {A : Type 0} (test keep : A → Bool) → ((x : A) → test x ≡ true → keep x ≡ true) → (xs : List A) → list_any test xs ≡ true → list_any test (filter keep xs) ≡ true
any_kept test keep step [] there = cc
any_kept test keep step (x ∷ xs) there = by (test x) refl (any_kept test keep step xs) there
  where
    behind : (b : Bool) → list_any test (filter keep xs) ≡ true → list_any test (cond b (x ∷ filter keep xs) (filter keep xs)) ≡ true
    behind true there = or_right (test x) (list_any test (filter keep xs)) there
    behind false there = there

    by : (passes : Bool) → test x ≡ passes → (list_any test xs ≡ true → list_any test (filter keep xs) ≡ true) → (passes || list_any test xs) ≡ true → list_any test (cond (keep x) (x ∷ filter keep xs) (filter keep xs)) ≡ true
    by true is rest either = ap (λ (b : Bool). list_any test (cond b (x ∷ filter keep xs) (filter keep xs))) (step x is) ∙ ap (λ (b : Bool). b || list_any test (filter keep xs)) is
    by false is rest either = behind (keep x) (rest either)

-- in a longer list
pub any_before : {A : Type 0} (test : A → Bool) (xs ys : List A) → list_any test xs ≡ true → list_any test (xs ++ ys) ≡ true
any_before test [] ys there = cc
any_before test (x ∷ xs) ys there = either (test x) (list_any test xs) (test x) (list_any test (xs ++ ys)) (λ is. is) (any_before test xs ys) there

-- one at the end
pub any_last : {A : Type 0} (test : A → Bool) (xs : List A) (x : A) → test x ≡ true → list_any test (xs ++ x ∷ []) ≡ true
any_last test [] x is = ap (λ (b : Bool). b || false) is
any_last test (y ∷ xs) x is = or_right (test y) (list_any test (xs ++ x ∷ [])) (any_last test xs x is)
