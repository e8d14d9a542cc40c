-- Where a number, bytes or a reference ends in a text.
use Rattle.std.specs.Prelude.{◌≡◌, ℕ, suc, Bool, true, false, ◌==◌, ◌||◌, List, [], ◌∷◌, if◌then◌else◌}
use Rattle.std.specs.List.{AllByRecursion}

-- whether a byte stands behind a number or bytes: a space, a comma, a point, or the bracket that ends a list
abbrev pub is_mark : ℕ → Bool
is_mark byte = byte == 32 || byte == 44 || byte == 46 || byte == 93

-- no mark is among the bytes
abbrev pub HasNoMark : List ℕ → Type 0
HasNoMark bytes = AllByRecursion (λ byte. is_mark byte ≡ false) bytes

-- nothing is left, or a mark is next
abbrev pub Stops : List ℕ → Type 0
Stops [] = Unit {0}
Stops (byte ∷ bytes) = is_mark byte ≡ true

-- how many bytes stand before the first mark
abbrev pub length_of_front : List ℕ → ℕ
length_of_front [] = 0
length_of_front (byte ∷ bytes) = if is_mark byte then 0 else suc (length_of_front bytes)
