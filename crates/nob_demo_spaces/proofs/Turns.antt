-- How many calls a space makes.
use Rattle.std.proofs.Common.{◌≡◌, ℕ, zero, suc, ◌+◌, ◌-◌, ◌*◌, ◌/◌, ◌%◌, ◌==◌, ◌<◌, ◌≤◌, refl, arith, sym, ◌∙◌, ap, if◌then◌else◌}
use Rattle.std.proofs.lemmas.Bool.Decides.{nat_tests}
use Rattle.std.proofs.lemmas.Nat.{div-mul-add, div-add-mod'}
use Rattle.nob_demo_spaces.specs.Shares.{calls_of}

-- a number's quotient, where the rest is below the divisor
quotient_is : (n w q r : ℕ) → r < w → n ≡ q * w + r → n / w ≡ q
quotient_is n w q r below e = ap (λ (m : ℕ). m / w) e ∙ div-mul-add q w r below

-- one round more
next_round : (q w : ℕ) → (q + 1) * w ≡ q * w + w
next_round q w = grind arith

-- one more call, in rounds of w callers of which d come behind this one, where this one makes it
same_turn : (last w d q r : ℕ) → last ≡ q * w + r → r + d + 1 ≡ w → (last + 1 + d) / w ≡ (last + d) / w + 1
same_turn last w d q r e turn =
    let now : (last + d) / w ≡ q = quotient_is (last + d) w q (r + d) (omega arith) (omega arith) in
    let next : (last + 1 + d) / w ≡ q + 1 = quotient_is (last + 1 + d) w (q + 1) 0 (omega arith) (omega (arith, next_round q w)) in
    omega arith

-- where another one makes it that comes before this one
before_turn : (last w d q r : ℕ) → last ≡ q * w + r → r + d + 1 < w → (last + 1 + d) / w ≡ (last + d) / w
before_turn last w d q r e turn =
    let now : (last + d) / w ≡ q = quotient_is (last + d) w q (r + d) (omega arith) (omega arith) in
    let next : (last + 1 + d) / w ≡ q = quotient_is (last + 1 + d) w q (r + d + 1) (omega arith) (omega arith) in
    omega arith

-- where another one makes it that comes behind this one
after_turn : (last w d q r : ℕ) → last ≡ q * w + r → r < w → d < w → w < r + d + 1 → (last + 1 + d) / w ≡ (last + d) / w
after_turn last w d q r e inside few turn =
    let now : (last + d) / w ≡ q + 1 = quotient_is (last + d) w (q + 1) (r + d - w) (omega arith) (omega (arith, next_round q w)) in
    let next : (last + 1 + d) / w ≡ q + 1 = quotient_is (last + 1 + d) w (q + 1) (r + d + 1 - w) (omega arith) (omega (arith, next_round q w)) in
    omega arith

-- one more call, whoever makes it
next_turn : (last w d : ℕ) → 0 < w → d < w → (last + 1 + d) / w ≡ (if last % w + d + 1 == w then suc ((last + d) / w) else (last + d) / w)
next_turn last w d some few =
    let whole : last ≡ last / w * w + last % w = sym (div-add-mod' last w) in
    let inside : last % w < w = omega arith in
    let same = same_turn last w d (last / w) (last % w) whole in
    let before = before_turn last w d (last / w) (last % w) whole in
    let after = after_turn last w d (last / w) (last % w) whole inside few in
    grind (arith, nat_tests, same, before, after)

pub shared : (spaces space last : ℕ) → 2 ≤ space → space ≤ spaces → calls_of spaces space last ≡ (last + (spaces - space)) / (spaces - 1)
shared spaces space zero from to = sym (quotient_is (0 + (spaces - space)) (spaces - 1) 0 (spaces - space) (omega arith) (omega arith))
shared spaces space (suc before) from to =
    let here : suc before - 1 ≡ before = omega arith in
    let more : suc before + (spaces - space) ≡ before + 1 + (spaces - space) = omega arith in
    let turn = next_turn before (spaces - 1) (spaces - space) (omega arith) (omega arith) in
    rw (here, more, turn, shared spaces space before from to) (grind (arith, nat_tests))

pub none_below : (spaces space last : ℕ) → space < 2 → calls_of spaces space last ≡ 0
none_below spaces space zero below = refl
none_below spaces space (suc before) below = grind (arith, nat_tests, none_below spaces space before below)

pub none_above : (spaces space last : ℕ) → 2 ≤ spaces → spaces < space → calls_of spaces space last ≡ 0
none_above spaces space zero many above = refl
none_above spaces space (suc before) many above =
    let inside : before % (spaces - 1) < spaces - 1 = omega arith in
    grind (arith, nat_tests, none_above spaces space before many above)
