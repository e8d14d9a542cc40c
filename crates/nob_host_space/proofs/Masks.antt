-- Bits of a mask.
use Rattle.std.proofs.Common.{◌≡◌, ℕ, suc, ◌+◌, ◌*◌, ◌/◌, ◌%◌, ◌^◌, ◌<◌, ◌≤◌, Bool, true, false, List, [], ◌∷◌, length, Some, slice_get, ap, ◌∙◌, arith}
use Prim.Native.Nat.{zero}
use Rattle.std.specs.Int.{bit_at}
use Rattle.std.proofs.Math.Nat.{pow-succ'}
use Rattle.std.proofs.Math.Pow.{pow_mono}
use Rattle.std.proofs.lemmas.Nat.Bits.{bit_at-suc, bit_at_lowest}
use Rattle.nob_host_space.specs.Bits.{mask, bit_of}

bit_low : (test : Bool) → bit_of test ≤ 1
bit_low true = omega arith
bit_low false = omega arith

-- a mask has no more bits than tests
mask_low : (tests : List Bool) → mask tests < 2 ^ length tests
mask_low [] = omega arith
mask_low (test ∷ tests) = omega (arith, mask_low tests, bit_low test, pow-succ' 2 (length tests))

pub mask_bound : (tests : List Bool) → length tests ≤ 31 → mask tests < 2147483648
mask_bound tests short = omega (arith, mask_low tests, pow_mono {i = length tests} {j = 31} short)

-- a bit above a number's lowest is one of its half
half : (first : Bool) (n : ℕ) → (bit_of first + 2 * n) / 2 ≡ n
half true n = omega arith
half false n = omega arith

lowest : (first : Bool) (n : ℕ) → (bit_of first + 2 * n) % 2 ≡ bit_of first
lowest true n = omega arith
lowest false n = omega arith

-- each test is a bit
pub mask_bit : (tests : List Bool) (place : ℕ) (test : Bool) → slice_get tests place ≡ Some test → bit_at (mask tests) place ≡ bit_of test
mask_bit [] place test is = grind (arith, is)
mask_bit (first ∷ tests) zero test is = bit_at_lowest (mask (first ∷ tests)) ∙ lowest first (mask tests) ∙ ap bit_of (grind (arith, is))
mask_bit (first ∷ tests) (suc place) test is = bit_at-suc (mask (first ∷ tests)) place ∙ ap (λ (n : ℕ). bit_at n place) (half first (mask tests)) ∙ mask_bit tests place test is
