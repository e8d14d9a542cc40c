-- Slices of bytes as the lists that they point to.
use Rattle.std.specs.Prelude.{ℕ, List, map, Option}
use Rattle.std.specs.Option.{option_map}
use Rattle.std.specs.Borrow.{Bor}

-- the lists of bytes that these slices point to
abbrev pub texts : List (Bor (List ℕ)) → List (List ℕ)
texts slices = map (λ (s : Bor (List ℕ)). s.now) slices

-- the number and the bytes of a first item
abbrev pub front_text : Option (ℕ × Bor (List ℕ)) → Option (ℕ × List ℕ)
front_text front = option_map (λ f. (f.0, f.1.now)) front
