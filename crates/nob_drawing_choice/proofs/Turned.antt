-- The references of the bars come to the rows at which they begin and end, one bar after the other.
use Prim.Native.Nat.{zero}
use Rattle.std.proofs.Common.{◌≡◌, ◌≢◌, ℕ, suc, ◌+◌, ◌-◌, ◌<◌, ◌≤◌, Bool, true, false, cond, ◌||◌, List, [], ◌∷◌, ◌++◌, length, take, get_or, flat_map, slice_get, Option, Some, None, refl, sym, ap, subst, ◌∙◌, append_assoc, arith}
use Rattle.std.specs.Prelude.{◌==◌, slice_set}
use Rattle.std.proofs.lemmas.Bool.Decides.{nat_tests}
use Rattle.std.proofs.lemmas.Grind.{flat_map-append}
use Rattle.std.proofs.lemmas.List.{append-nil, length-append, take_more}
use Rattle.nob_ids.specs.declared.wire_rep.WireRep.{WireRep}
use Rattle.nob_model_types.specs.declared.entry.Entry.{Entry}
use Rattle.nob_drawing_plan.specs.declared.bar.Bar.{Bar}
use Rattle.nob_drawing_plan.specs.Bars.{row_after}
use Rattle.nob_drawing_choice.specs.Naming.{names_in}
use Rattle.nob_drawing_choice.specs.Lives.{subject_of, is_at, turned_by, lives_at, lives_of, names_at, found_names}
use Rattle.nob_drawing_choice.specs.Turns.{with_name_after, with_name, with_end, with_turns}

-- ---- one more reference at a row

-- the references of a row, with one more where it is the one that this is put at
abbrev behind : Bool → WireRep → List WireRep → List WireRep
behind here rep names = cond here (names ++ rep ∷ []) names

after_last : (count : ℕ) (rep : WireRep) (lives : List (List WireRep)) (names : List WireRep) → with_name_after count rep (lives ++ names ∷ []) ≡ with_name_after count rep lives ++ behind (count == length lives) rep names ∷ []
after_last zero rep [] names = refl
after_last (suc count) rep [] names =
    let none : (suc count == 0) ≡ false = grind (arith, nat_tests) in
    ap (λ (here : Bool). behind here rep names ∷ []) (sym none)
after_last zero rep (first ∷ lives) names =
    let none : (0 == suc (length lives)) ≡ false = grind (arith, nat_tests) in
    ap (λ (here : Bool). (first ++ rep ∷ []) ∷ lives ++ behind here rep names ∷ []) (sym none)
after_last (suc count) rep (first ∷ lives) names =
    let same : (count == length lives) ≡ (suc count == suc (length lives)) = grind (arith, nat_tests) in
    ap (λ (rest : List (List WireRep)). first ∷ rest) (after_last count rep lives names)
    ∙ ap (λ (here : Bool). first ∷ with_name_after count rep lives ++ behind here rep names ∷ []) same

-- behind the last row
name_last : (row last : ℕ) (rep : WireRep) (lives : List (List WireRep)) (names : List WireRep) → last ≡ length lives + 1 → with_name row rep (lives ++ names ∷ []) ≡ with_name row rep lives ++ behind (row == last) rep names ∷ []
name_last zero last rep lives names is =
    let none : (0 == last) ≡ false = grind (arith, nat_tests) in
    ap (λ (here : Bool). lives ++ behind here rep names ∷ []) (sym none)
name_last (suc count) last rep lives names is =
    let same : (count == length lives) ≡ (suc count == last) = grind (arith, nat_tests) in
    after_last count rep lives names ∙ ap (λ (here : Bool). with_name_after count rep lives ++ behind here rep names ∷ []) same

after_length : (count : ℕ) (rep : WireRep) (lives : List (List WireRep)) → length (with_name_after count rep lives) ≡ length lives
after_length count rep [] = refl
after_length zero rep (names ∷ lives) = refl
after_length (suc count) rep (names ∷ lives) = ap suc (after_length count rep lives)

name_length : (row : ℕ) (rep : WireRep) (lives : List (List WireRep)) → length (with_name row rep lives) ≡ length lives
name_length zero rep lives = refl
name_length (suc count) rep lives = after_length count rep lives

-- ---- the two rows of a bar

-- the references of the last row, with that of a bar where it ends there and not begins
abbrev behind_end : (start : ℕ) → Option ℕ → (last : ℕ) → WireRep → List WireRep → List WireRep
behind_end start None last rep names = names
behind_end start (Some end) last rep names = cond (end == start) names (behind (end == last) rep names)

end_last : (start : ℕ) (end : Option ℕ) (last : ℕ) (rep : WireRep) (lives : List (List WireRep)) (names : List WireRep) → last ≡ length lives + 1 → with_end start end rep (lives ++ names ∷ []) ≡ with_end start end rep lives ++ behind_end start end last rep names ∷ []
end_last start None last rep lives names is = refl
end_last start (Some end) last rep lives names is = by (end == start)
  where
    by : (b : Bool) → cond b (lives ++ names ∷ []) (with_name end rep (lives ++ names ∷ [])) ≡ cond b lives (with_name end rep lives) ++ cond b names (behind (end == last) rep names) ∷ []
    by true = refl
    by false = name_last end last rep lives names is

-- a bar that begins and ends in one row is named there once
both_ends : (start : ℕ) (end : Option ℕ) (last : ℕ) (rep : WireRep) (names : List WireRep) → behind_end start end last rep (behind (start == last) rep names) ≡ names ++ cond (start == last || is_at last end) (rep ∷ []) []
both_ends start None last rep names = by (start == last)
  where
    by : (b : Bool) → behind b rep names ≡ names ++ cond (b || false) (rep ∷ []) []
    by true = refl
    by false = sym (append-nil names)
both_ends start (Some end) last rep names = by (end == start) (start == last) (end == last) refl refl refl
  where
    by : (same begins ends : Bool) → (end == start) ≡ same → (start == last) ≡ begins → (end == last) ≡ ends → cond same (behind begins rep names) (behind ends rep (behind begins rep names)) ≡ names ++ cond (begins || ends) (rep ∷ []) []
    by true true ends s b e = refl
    by true false true s b e = let both : start ≡ last = grind (arith, nat_tests) in absurd (grind (arith, nat_tests))
    by true false false s b e = sym (append-nil names)
    by false true true s b e = absurd (grind (arith, nat_tests))
    by false true false s b e = refl
    by false false true s b e = refl
    by false false false s b e = sym (append-nil names)

turns_last : (bar : Bar) (last : ℕ) (lives : List (List WireRep)) (names : List WireRep) → last ≡ length lives + 1 → with_turns bar (lives ++ names ∷ []) ≡ with_turns bar lives ++ (names ++ turned_by last bar) ∷ []
turns_last bar last lives names is =
    let rep = subject_of bar.mark in
    let begun = with_name bar.start rep lives in
    let still : last ≡ length begun + 1 = is ∙ ap (λ (count : ℕ). count + 1) (sym (name_length bar.start rep lives)) in
    ap (with_end bar.start bar.end rep) (name_last bar.start last rep lives names is)
    ∙ end_last bar.start bar.end last rep begun (behind (bar.start == last) rep names) still
    ∙ ap (λ (all : List WireRep). with_turns bar lives ++ all ∷ []) (both_ends bar.start bar.end last rep names)

-- ---- all rows

lives_length : (bars : List Bar) (J : List Entry) → length (lives_of bars J) ≡ length J
lives_length bars [] = refl
lives_length bars (entry ∷ J) = length-append (lives_of bars J) (lives_at bars (row_after J) entry ∷ []) ∙ (let rest = lives_length bars J in omega (arith, rest))

-- with one bar more
bar_more : (bars : List Bar) (bar : Bar) (J : List Entry) → lives_of (bars ++ bar ∷ []) J ≡ with_turns bar (lives_of bars J)
bar_more bars bar [] = sym (by bar.end)
  where
    none : (row : ℕ) (rep : WireRep) → with_name row rep [] ≡ []
    none zero rep = refl
    none (suc count) rep = refl

    by : (end : Option ℕ) → with_end bar.start end (subject_of bar.mark) (with_name bar.start (subject_of bar.mark) []) ≡ []
    by None = none bar.start (subject_of bar.mark)
    by (Some end) = ap (with_end bar.start (Some end) (subject_of bar.mark)) (none bar.start (subject_of bar.mark)) ∙ at_end (end == bar.start)
      where
        at_end : (b : Bool) → cond b [] (with_name end (subject_of bar.mark) []) ≡ []
        at_end true = refl
        at_end false = none end (subject_of bar.mark)
bar_more bars bar (entry ∷ J) =
    let row = row_after J in
    let last : row ≡ length (lives_of bars J) + 1 = ap (λ (count : ℕ). count + 1) (sym (lives_length bars J)) in
    let turned : flat_map (turned_by row) (bars ++ bar ∷ []) ≡ flat_map (turned_by row) bars ++ turned_by row bar = flat_map-append (turned_by row) bars (bar ∷ []) ∙ ap (λ (reps : List WireRep). flat_map (turned_by row) bars ++ reps) (append-nil (turned_by row bar)) in
    ap (λ (lives : List (List WireRep)). lives ++ lives_at (bars ++ bar ∷ []) row entry ∷ []) (bar_more bars bar J)
    ∙ ap (λ (names : List WireRep). with_turns bar (lives_of bars J) ++ names ∷ []) (ap (λ (reps : List WireRep). names_in entry ++ reps) turned ∙ sym (append_assoc (names_in entry) (flat_map (turned_by row) bars) (turned_by row bar)))
    ∙ sym (turns_last bar row (lives_of bars J) (lives_at bars row entry) last)

-- ---- the passes

-- over the entries: what one more names
pub entry_next : (entry : Entry) (J more : List Entry) (names : List WireRep) (lives after : List (List WireRep)) → more ≡ entry ∷ J → lives ≡ lives_of [] J → names ≡ names_in entry → after ≡ lives ++ names ∷ [] → after ≡ lives_of [] more
entry_next entry J more names lives after is were named put = rw (is, put, named, were) (ap (λ (all : List WireRep). lives_of [] J ++ all ∷ []) (sym (append-nil (names_in entry))))

-- over the bars: one more of them
pub bar_next : (bars : List Bar) (i : ℕ) (bar : Bar) (J : List Entry) (lives after : List (List WireRep)) → i < length bars → bar ≡ get_or bars i bar → lives ≡ lives_of (take i bars) J → after ≡ with_turns bar lives → after ≡ lives_of (take (i + 1) bars) J
bar_next bars i bar J lives after less same were put =
    put ∙ ap (with_turns bar) were ∙ sym (bar_more (take i bars) bar J)
    ∙ ap (λ (b : Bar). lives_of (take i bars ++ b ∷ []) J) same
    ∙ ap (λ (some : List Bar). lives_of some J) (sym (take_more bars i bar less))

-- ---- a reference behind those of a row

put_after : (count : ℕ) (rep : WireRep) (lives : List (List WireRep)) (names : List WireRep) → slice_get lives count ≡ Some names → slice_set lives count (names ++ rep ∷ []) ≡ with_name_after count rep lives
put_after count rep [] names there = refl
put_after zero rep (first ∷ lives) names there = ap (λ (found : List WireRep). (found ++ rep ∷ []) ∷ lives) (sym (ap found_names there))
put_after (suc count) rep (first ∷ lives) names there = ap (λ (rest : List (List WireRep)). first ∷ rest) (put_after count rep lives names there)

pub put_there : (row : ℕ) (rep : WireRep) (lives : List (List WireRep)) (names : List WireRep) → row ≢ 0 → slice_get lives (row - 1) ≡ Some names → slice_set lives (row - 1) (names ++ rep ∷ []) ≡ with_name row rep lives
put_there zero rep lives names some there = absurd (some refl)
put_there (suc count) rep lives names some there =
    let is : suc count - 1 ≡ count = omega arith in
    ap (λ (at : ℕ). slice_set lives at (names ++ rep ∷ [])) is ∙ put_after count rep lives names (subst (λ (at : ℕ). slice_get lives at ≡ Some names) is there)

past_after : (count : ℕ) (rep : WireRep) (lives : List (List WireRep)) → length lives ≤ count → with_name_after count rep lives ≡ lives
past_after count rep [] past = refl
past_after zero rep (names ∷ lives) past = absurd (omega (arith, past))
past_after (suc count) rep (names ∷ lives) past = ap (λ (rest : List (List WireRep)). names ∷ rest) (past_after count rep lives (omega (arith, past)))

pub put_past : (row : ℕ) (rep : WireRep) (lives : List (List WireRep)) → length lives < row → with_name row rep lives ≡ lives
put_past zero rep lives past = refl
put_past (suc count) rep lives past = past_after count rep lives (omega (arith, past))

-- ---- the row of an entry

last_of : (lives : List (List WireRep)) (names : List WireRep) (row : ℕ) → row ≡ length lives + 1 → names_at (lives ++ names ∷ []) row ≡ names
last_of lives names row is = by lives (row - 1) (omega (arith, is))
  where
    by : (all : List (List WireRep)) (i : ℕ) → i ≡ length all → found_names (slice_get (all ++ names ∷ []) i) ≡ names
    by [] i here = ap (λ (k : ℕ). found_names (slice_get (names ∷ []) k)) here
    by (first ∷ all) zero here = absurd (omega (arith, here))
    by (first ∷ all) (suc i) here = by all i (omega (arith, here))

before_last : (lives : List (List WireRep)) (last : List WireRep) (row : ℕ) → row ≤ length lives → row ≢ 0 → names_at (lives ++ last ∷ []) row ≡ names_at lives row
before_last lives last row less some = by lives (row - 1) (omega (arith, less, some))
  where
    by : (all : List (List WireRep)) (i : ℕ) → i < length all → found_names (slice_get (all ++ last ∷ []) i) ≡ found_names (slice_get all i)
    by [] i here = absurd (omega (arith, here))
    by (first ∷ all) zero here = refl
    by (first ∷ all) (suc i) here = by all i (omega (arith, here))

pub lives_are_of_rows : (bars : List Bar) (later earlier : List Entry) (entry : Entry) → names_at (lives_of bars (later ++ entry ∷ earlier)) (row_after earlier) ≡ lives_at bars (row_after earlier) entry
lives_are_of_rows bars [] earlier entry = last_of (lives_of bars earlier) (lives_at bars (row_after earlier) entry) (row_after earlier) (ap (λ (count : ℕ). count + 1) (sym (lives_length bars earlier)))
lives_are_of_rows bars (newest ∷ later) earlier entry =
    let all = later ++ entry ∷ earlier in
    let many : length all ≡ length later + length (entry ∷ earlier) = length-append later (entry ∷ earlier) in
    let these : length (lives_of bars all) ≡ length all = lives_length bars all in
    before_last (lives_of bars all) (lives_at bars (row_after all) newest) (row_after earlier) (omega (arith, many, these)) (omega arith)
    ∙ lives_are_of_rows bars later earlier entry
