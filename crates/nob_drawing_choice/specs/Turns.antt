-- How the reference of a bar comes to the rows at which it begins and ends.
use Prim.Native.Nat.{zero}
use Rattle.std.specs.Prelude.{ℕ, suc, ◌==◌, List, [], ◌∷◌, ◌++◌, Option, Some, None, if◌then◌else◌}
use Rattle.nob_ids.specs.declared.wire_rep.WireRep.{WireRep}
use Rattle.nob_drawing_plan.specs.declared.bar.Bar.{Bar}
use Rattle.nob_drawing_choice.specs.Lives.{subject_of}

-- the references of rows with one more behind those after so many rows, if there is such a row
abbrev pub with_name_after : (count : ℕ) → WireRep → List (List WireRep) → List (List WireRep)
with_name_after count rep [] = []
with_name_after zero rep (names ∷ lives) = (names ++ rep ∷ []) ∷ lives
with_name_after (suc count) rep (names ∷ lives) = names ∷ with_name_after count rep lives

-- with one more at a row, counted from 1
abbrev pub with_name : (row : ℕ) → WireRep → List (List WireRep) → List (List WireRep)
with_name zero rep lives = lives
with_name (suc count) rep lives = with_name_after count rep lives

-- with one more at the row at which a bar ends, if it does, and not at the one at which it begins
abbrev pub with_end : (start : ℕ) → Option ℕ → WireRep → List (List WireRep) → List (List WireRep)
with_end start None rep lives = lives
with_end start (Some end) rep lives = if end == start then lives else with_name end rep lives

-- with the reference of a bar at the rows at which it begins and ends
abbrev pub with_turns : Bar → List (List WireRep) → List (List WireRep)
with_turns bar lives = with_end bar.start bar.end (subject_of bar.mark) (with_name bar.start (subject_of bar.mark) lives)
