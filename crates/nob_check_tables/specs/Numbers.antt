-- The number of the session with each peer.
use Rattle.std.specs.Prelude.{ℕ, ◌==◌, List, Option, Some, None}
use Rattle.std.specs.Map.{lookup}
use Rattle.indexmap.specs.IndexMap.{insert_entry}
use Rattle.nob_model_types.specs.declared.deed.Deed.{Deed}
use Rattle.nob_model_types.specs.declared.deed.Deed.TheVariants.{Open}

-- the number that was found, that of the first session where there is none
abbrev pub found_number : Option ℕ → ℕ
found_number None = 1
found_number (Some number) = number

-- the number of the session with p
abbrev pub number_in : ℕ → List (ℕ × ℕ) → ℕ
number_in p numbers = found_number (lookup (λ other. p == other) numbers)

-- the numbers with another one of the session with p
abbrev pub with_number : (p k : ℕ) → List (ℕ × ℕ) → List (ℕ × ℕ)
with_number p k numbers = insert_entry (λ q other. q == other) numbers p k

-- the numbers, after a deed
abbrev pub numbers_after : Deed → List (ℕ × ℕ) → List (ℕ × ℕ)
numbers_after (Open p k) numbers = with_number p k numbers
numbers_after (_) numbers = numbers
