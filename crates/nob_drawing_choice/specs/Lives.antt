-- Of whose lives each row of a run is part. Rows count from 1 in merged order, and the newest entry of a journal stands FIRST.
use Rattle.std.specs.Prelude.{ℕ, ◌-◌, Bool, false, ◌||◌, ◌==◌, List, [], ◌∷◌, ◌++◌, flat_map, slice_get, Option, Some, None, if◌then◌else◌}
use Rattle.nob_ids.specs.declared.wire_rep.WireRep.{WireRep}
use Rattle.nob_model_types.specs.declared.entry.Entry.{Entry}
use Rattle.nob_drawing_plan.specs.declared.mark.Mark.{Mark}
use Rattle.nob_drawing_plan.specs.declared.mark.Mark.TheVariants as marks
use Rattle.nob_drawing_plan.specs.declared.bar.Bar.{Bar}
use Rattle.nob_drawing_plan.specs.Bars.{row_after}
use Rattle.nob_drawing_choice.specs.Naming.{names_in}

-- the reference that a mark is of
abbrev pub subject_of : Mark → WireRep
subject_of (marks.Live rep) = rep
subject_of (marks.Listed rep client) = rep
subject_of (marks.Pinned rep peer session item) = rep

-- whether a row is the one at which a bar ends, if it does
abbrev pub is_at : ℕ → Option ℕ → Bool
is_at row None = false
is_at row (Some end) = end == row

-- whether a bar begins or ends at a row
abbrev pub turns_at : ℕ → Bar → Bool
turns_at row bar = bar.start == row || is_at row bar.end

-- the reference of a bar, if it begins or ends at a row
abbrev pub turned_by : ℕ → Bar → List WireRep
turned_by row bar = if turns_at row bar then subject_of bar.mark ∷ [] else []

-- the references of whose lives the entry at a row is part, where these are all bars: those that it names, and those whose bars begin or end there
abbrev pub lives_at : List Bar → ℕ → Entry → List WireRep
lives_at bars row entry = names_in entry ++ flat_map (turned_by row) bars

-- those of each row of a journal, the first row first
abbrev pub lives_of : List Bar → List Entry → List (List WireRep)
lives_of bars [] = []
lives_of bars (entry ∷ J) = lives_of bars J ++ lives_at bars (row_after J) entry ∷ []

-- the names at a row, where there are some
abbrev pub found_names : Option (List WireRep) → List WireRep
found_names None = []
found_names (Some names) = names

-- those of a row among all
abbrev pub names_at : List (List WireRep) → ℕ → List WireRep
names_at lives row = found_names (slice_get lives (row - 1))
