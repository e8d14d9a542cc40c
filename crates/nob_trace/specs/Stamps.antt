-- The stamps of a trace's entries.
use Rattle.std.specs.Prelude.{ℕ, ◌<◌, List, [], ◌∷◌}
use Rattle.nob_trace.specs.declared.stamped.Stamped.{Stamped}

-- each stamp is above the one before, the first above this one
abbrev pub Rise : ℕ → List Stamped → Type 0
Rise last [] = Unit {0}
Rise last (entry ∷ entries) = (last < entry.stamp) × Rise entry.stamp entries

-- the last stamp, or this one where there is none
abbrev pub last_stamp : ℕ → List Stamped → ℕ
last_stamp last [] = last
last_stamp last (entry ∷ entries) = last_stamp entry.stamp entries
