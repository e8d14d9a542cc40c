-- A number in front of bytes, and one that stands among them.
use Rattle.std.specs.Prelude.{◌≡◌, ℕ, List, length, drop, nat_lt, Result, Ok, Err, if◌then◌else◌}
use Rattle.byteorder.specs.Endian.{big_number}

-- a number of so many bytes, the highest first, and the bytes after it: or this fault where they aren't all there
abbrev pub number_at : {F : Type 0} → F → ℕ → List ℕ → Result (ℕ × List ℕ) F
number_at short size bytes = if nat_lt (length bytes) size then Err short else Ok (big_number size bytes, drop size bytes)

-- what was answered, seen by view, is what was to come
abbrev pub Sees : {X Y F : Type 0} → (X → Y) → Result X F → Result Y F → Type 0
Sees view (Ok x) wanted = wanted ≡ Ok (view x)
Sees view (Err fault) wanted = wanted ≡ Err fault

-- the number in so many bytes from a place on, the highest first
abbrev pub field : ℕ → ℕ → List ℕ → ℕ
field place size bytes = big_number size (drop place bytes)
