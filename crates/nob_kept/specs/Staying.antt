-- Entries that stay where those around them are let go: the newest of each seat.
use Rattle.std.specs.Prelude.{◌≡◌, ◌≤◌, ◌-◌, ℕ, nat_lt, List, [], ◌∷◌, ◌++◌, length, map, Some, slice_get, if◌then◌else◌}
use Rattle.std.specs.List.{AllByRecursion}
use lib.ListN.{set}
use Rattle.nob_trace.specs.declared.stamped.Stamped.{Stamped}
use Rattle.nob_kept.specs.declared.keep.Keep.{Keep}
use Rattle.nob_kept.specs.declared.keep.Keep.TheVariants as keeps
use Rattle.nob_kept.specs.declared.noted.Noted.{Noted}

-- the places of entries that stay
abbrev pub places : List Noted → List ℕ
places noted = map (λ one. one.place) noted

-- an entry that stays is that of its place
abbrev pub IsNoted : List Stamped → Noted → Type 0
IsNoted entries one = (1 ≤ one.place) × (slice_get entries (one.place - 1) ≡ Some one.entry)

-- each entry that stays is that of its place
abbrev pub AreNoted : List Stamped → List Noted → Type 0
AreNoted entries noted = AllByRecursion (IsNoted entries) noted

-- a place is among these
abbrev pub IsAmong : List ℕ → ℕ → Type 0
IsAmong places place = (spot : ℕ) × (slice_get places spot ≡ Some place)

-- places with one more: at a spot, in the place of the one there, or behind all others
abbrev pub put_at : (spot place : ℕ) → List ℕ → List ℕ
put_at spot place places = if nat_lt spot (length places) then set places spot place else places ++ place ∷ []

-- the entries that stay: none where all are kept
abbrev pub AreStaying : Keep → List Stamped → List Noted → Type 0
AreStaying keeps.All entries noted = noted ≡ []
AreStaying keeps.Nothing entries noted = AreNoted entries noted
