-- Whether seats have the receipts of a trace.
use Rattle.std.specs.Prelude.{◌≡◌, ◌<◌, ◌==◌, ℕ, ◌+◌, Bool, true, false, List, [], ◌∷◌, ◌++◌, length, reverse, filter, get_or}
use Rattle.std.specs.List.{AllByRecursion}
use Rattle.nob_trace.specs.declared.stamped.Stamped.{Stamped}
use Rattle.nob_kept.specs.declared.receipt.Receipt.{Receipt}
use Rattle.nob_kept.specs.Receipts.{Told}

-- the receipts of all seats, those of each seat from the first on
abbrev pub receipts_of : List (List Receipt) → List Receipt
receipts_of [] = []
receipts_of (seat ∷ seats) = reverse seat ++ receipts_of seats

-- whether a receipt is that of a place
abbrev pub is_at : ℕ → Receipt → Bool
is_at place receipt = receipt.place == place

-- receipts are those of a trace's entries: each is told of the trace, and of each entry there is just one
pub record AreOf (entries : List Stamped) (receipts : List Receipt) : Type 0 where
  pub told : AllByRecursion (λ receipt. Told receipt entries) receipts
  pub once : (place : ℕ) → place < length entries → length (filter (is_at (place + 1)) receipts) ≡ 1

-- a mark as a number
abbrev pub count_of : Bool → ℕ
count_of true = 1
count_of false = 0

-- marks of the entries whose receipts are among these, of which each is told and no two are at one place
pub record AreMarks (marks : List Bool) (entries : List Stamped) (receipts : List Receipt) : Type 0 where
  pub told : AllByRecursion (λ receipt. Told receipt entries) receipts
  pub marked : (place : ℕ) → place < length marks → length (filter (is_at (place + 1)) receipts) ≡ count_of (get_or marks place false)
