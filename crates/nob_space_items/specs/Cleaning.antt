-- Which surrogate is given up, and what is answered, by the state.
use Rattle.std.specs.Prelude.{◌≡◌, ◌<◌, ℕ, Bool, true, false, ◌&&◌, ◌==◌, Some}
use Rattle.nob_ids.specs.Names.{is_same}
use Rattle.nob_ids.specs.declared.wire_rep.WireRep.{WireRep}
use Rattle.nob_pins.specs.Bundles.{count_of}
use Rattle.nob_table_rows.specs.Standings.{is_idle}
use Rattle.nob_table.specs.Table.{Table, standing, place_of, is_kept}
use Rattle.nob_space_state.specs.Parts.{State}

-- whether a surrogate can be given up: it is granted, and has neither holds nor pins
abbrev pub is_spare : State → WireRep → Bool
is_spare st rep = is_idle (standing st.table rep) && count_of st.pins.bundles rep == 0

-- no surrogate with a place below one can be given up
abbrev pub NoneSpareBelow : State → ℕ → Type 0
NoneSpareBelow st to = (rep : WireRep) (place : ℕ) → place_of st.table rep ≡ Some place → place < to → is_spare st rep ≡ false

-- a surrogate can be given up, and none with a lower place can
abbrev pub IsFirstSpare : State → WireRep → Type 0
IsFirstSpare st rep = (place : ℕ) × (place_of st.table rep ≡ Some place) × (is_spare st rep ≡ true) × NoneSpareBelow st place

-- each surrogate that the table keeps from outside is in transit
abbrev pub ArePinned : State → Type 0
ArePinned st = (rep : WireRep) (place : ℕ) → place_of st.table rep ≡ Some place → is_kept st.table rep ≡ true → (count_of st.pins.bundles rep == 0) ≡ false

-- no two surrogates have one place
abbrev pub ArePlacedApart : Table → Type 0
ArePlacedApart t = (rep other : WireRep) (place : ℕ) → place_of t rep ≡ Some place → place_of t other ≡ Some place → is_same rep other ≡ true
