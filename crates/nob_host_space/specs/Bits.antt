-- Tests as the bits of a number.
use Rattle.std.specs.Prelude.{ℕ, ◌+◌, ◌*◌, Bool, true, false, List, [], ◌∷◌}

-- 1 for yes, 0 for no
abbrev pub bit_of : Bool → ℕ
bit_of true = 1
bit_of false = 0

-- the number whose bits these tests are, the lowest first
abbrev pub mask : List Bool → ℕ
mask [] = 0
mask (test ∷ tests) = bit_of test + 2 * mask tests
