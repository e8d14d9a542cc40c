-- Where the mark of a bringing stands.
use Rattle.std.proofs.Common.{◌≡◌, ℕ, suc, ◌+◌, ◌^◌, ◌<◌, ◌%◌, false, List, [], ◌∷◌, ◌++◌, length, take, drop, Some, refl, sym, ap, ◌∙◌, arith}
use Rattle.std.specs.List.{AllByRecursion, position, position_or_len}
use Rattle.std.specs.Fmt.{decimal}
use Rattle.std.proofs.lemmas.Bool.{lt-ltb}
use Rattle.std.proofs.lemmas.Bool.Decides.{nat_tests}
use Rattle.std.proofs.lemmas.Fmt.{decimal_by_steps}
use Rattle.std.proofs.lemmas.List.{length-append}
use Rattle.std.proofs.lemmas.Option.{same_Some}
use Rattle.std.proofs.Math.Seq.{take-append_seam, drop-append_seam}
use Rattle.test_worlds.specs.Scripts.{is_mark, IsBringing}

-- no mark is among the bytes
HasNone : List ℕ → Type 0
HasNone bytes = AllByRecursion (λ byte. is_mark byte ≡ false) bytes

digit : (d : ℕ) → d < 10 → is_mark (48 + d) ≡ false
digit d less = grind (arith, nat_tests)

one_behind : (front : List ℕ) (byte : ℕ) → HasNone front → is_mark byte ≡ false → HasNone (front ++ byte ∷ [])
unfolding HasNone
one_behind [] byte none one = (one, tt)
one_behind (x ∷ front) byte none one = (none.0, one_behind front byte none.1 one)

number : (n : ℕ) → n < 2 ^ 64 → HasNone (decimal n)
unfolding HasNone
number n small = decimal_by_steps (λ (m : ℕ) (ds : List ℕ). HasNone ds) (λ m less. (digit m less, tt)) (λ m ds above none. one_behind ds (48 + m % 10) none (digit (m % 10) (omega arith))) n small

-- the first mark stands behind what has none
first_mark : (front back : List ℕ) → HasNone front → position_or_len is_mark (front ++ 62 ∷ back) ≡ length front
unfolding HasNone
first_mark [] back none = refl
first_mark (x ∷ front) back none = let one : 1 + length front ≡ suc (length front) = omega arith in rw none.0 (ap (λ (k : ℕ). 1 + k) (first_mark front back none.1) ∙ one)

within : (front back : List ℕ) → length front < length (front ++ 62 ∷ back)
within front back = let all = length-append front (62 ∷ back) in omega (arith, all)

mark_there : (front back : List ℕ) → HasNone front → position is_mark (front ++ 62 ∷ back) ≡ Some (length front)
mark_there front back none =
    let at = first_mark front back none in
    rw (at, lt-ltb (length front) (length (front ++ 62 ∷ back)) (within front back)) refl

-- a bringing has its mark behind its first number
pub bringing_mark : (line : List ℕ) (from to : ℕ) → IsBringing line from to → position is_mark line ≡ Some (length (decimal from))
bringing_mark line from to is = rw is.2 (mark_there (decimal from) (decimal to) (number from (let few = is.0.1 in omega (arith, few))))

-- so what stands before the first mark spells the one
pub bringing_from : (line : List ℕ) (from to mark : ℕ) → IsBringing line from to → position is_mark line ≡ Some mark → take mark line ≡ decimal from
bringing_from line from to mark is at =
    let there : mark ≡ length (decimal from) = same_Some mark (length (decimal from)) (sym at ∙ bringing_mark line from to is) in
    rw (there, is.2) (take-append_seam (decimal from) (62 ∷ decimal to))

-- and from the mark on the other is spelt
pub bringing_to : (line : List ℕ) (from to mark : ℕ) → IsBringing line from to → position is_mark line ≡ Some mark → drop mark line ≡ 62 ∷ decimal to
bringing_to line from to mark is at =
    let there : mark ≡ length (decimal from) = same_Some mark (length (decimal from)) (sym at ∙ bringing_mark line from to is) in
    rw (there, is.2) (drop-append_seam (decimal from) (62 ∷ decimal to))

-- what stands behind the mark
pub tail_same : (x : ℕ) (xs ys : List ℕ) → x ∷ xs ≡ x ∷ ys → xs ≡ ys
tail_same x xs ys same = cc
