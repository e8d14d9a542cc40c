-- Bytes that were read.
use Rattle.std.specs.Prelude.{◌≡◌, ℕ, List, Option, Some, None}
use Rattle.std.specs.Global.{Vec}

-- there are bytes, and they are these
abbrev pub IsSomeOf : Option (Vec ℕ) → List ℕ → Type 0
IsSomeOf None bytes = ⊥
IsSomeOf (Some found) bytes = found.items ≡ bytes
