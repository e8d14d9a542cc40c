-- The bars of a drawing: what holds at a space from the row of one entry to that of another. Rows count from 1 in
-- merged order, and the newest entry of a journal stands FIRST.
use Prim.Native.Nat.{zero}
use Rattle.std.specs.Prelude.{ℕ, suc, ◌+◌, Bool, true, false, ◌&&◌, not, ◌==◌, List, [], ◌∷◌, ◌++◌, length, map, filter, Option, Some, None, if◌then◌else◌}
use Rattle.std.specs.List.{list_any}
use Rattle.nob_model_types.specs.declared.entry.Entry.{Entry}
use Rattle.nob_drawing_plan.specs.declared.mark.Mark.{Mark}
use Rattle.nob_drawing_plan.specs.declared.bar.Bar.{Bar}
use Rattle.nob_drawing_plan.specs.Marks.{same_mark, marks_at}

-- the row of an entry after those before it
abbrev pub row_after : List Entry → ℕ
row_after J = length J + 1

-- whether a bar has no end yet
abbrev pub is_endless : Option ℕ → Bool
is_endless None = true
is_endless (Some row) = false

-- whether a bar of space s goes on
abbrev pub goes_on : ℕ → Bar → Bool
goes_on s bar = bar.space == s && is_endless bar.end

-- whether it is the one of a mark
abbrev pub is_bar_of : ℕ → Mark → Bar → Bool
is_bar_of s mark bar = goes_on s bar && same_mark bar.mark mark

-- whether a mark of space s has a bar that goes on
abbrev pub has_bar : ℕ → Mark → List Bar → Bool
has_bar s mark bars = list_any (is_bar_of s mark) bars

-- the lanes of the bars of space s that go on
abbrev pub lanes_of : ℕ → List Bar → List ℕ
lanes_of s bars = map (λ bar. bar.lane) (filter (goes_on s) bars)

-- the first lane from k on that none of these bars is in, where so many are looked at
abbrev pub free_lane : (k tries : ℕ) → List ℕ → ℕ
free_lane k zero lanes = k
free_lane k (suc tries) lanes = if list_any (λ lane. lane == k) lanes then free_lane (k + 1) tries lanes else k

-- a bar that begins: beside those of its space that go on
abbrev pub new_bar : (s row : ℕ) → Mark → List Bar → Bar
new_bar s row mark bars = record { space = s; mark = mark; lane = free_lane 0 (length (lanes_of s bars)) (lanes_of s bars); start = row; end = None }

-- a bar ends at a row of its space after which its mark holds no more
abbrev pub ended : (s row : ℕ) → List Mark → Bar → Bar
ended s row held bar = if goes_on s bar && not (list_any (same_mark bar.mark) held) then record { space = bar.space; mark = bar.mark; lane = bar.lane; start = bar.start; end = Some row } else bar

-- a bar begins at a row of its space for each mark that holds after it and has none
abbrev pub with_begun : (s row : ℕ) → List Mark → List Bar → List Bar
with_begun s row [] bars = bars
with_begun s row (mark ∷ marks) bars = if has_bar s mark bars then with_begun s row marks bars else with_begun s row marks (bars ++ new_bar s row mark bars ∷ [])

-- the bars after an entry of space s, after which these marks hold
abbrev pub bars_after : (s row : ℕ) → List Mark → List Bar → List Bar
bars_after s row held bars = with_begun s row held (map (ended s row held) bars)

-- the bars of a journal of n spaces, in the order in which they begin
abbrev pub bars : ℕ → List Entry → List Bar
bars n [] = []
bars n (entry ∷ J) = bars_after entry.space (row_after J) (marks_at n entry.space (entry ∷ J)) (bars n J)
