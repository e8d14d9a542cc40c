-- Where everything stands in a drawing. Rows are the places of what is drawn among all that may be, from 1, as the plan has them;
-- an entry has beside its number in merged order, and the newest entry of a journal stands FIRST.
use Prim.Native.Nat.{zero}
use Rattle.std.specs.Prelude.{ℕ, suc, ◌+◌, ◌*◌, ◌-◌, ◌/◌, Bool, true, false, ◌&&◌, not, ◌==◌, nat_le, nat_lt, min, max, List, [], ◌∷◌, ◌++◌, length, map, filter, flat_map, codes, Option, Some, None, Result, Ok, Err, if◌then◌else◌}
use Rattle.std.specs.Fmt.{decimal}
use Rattle.nob_ids.specs.declared.wire_rep.WireRep.{WireRep}
use Rattle.nob_model_types.specs.declared.answer.Answer.{Answer}
use Rattle.nob_model_types.specs.declared.answer.Answer.TheVariants.{Closed}
use Rattle.nob_model_types.specs.declared.refusal.Refusal.{Refusal}
use Rattle.nob_model_types.specs.declared.entry.Entry.{Entry}
use Rattle.nob_drawing_plan.specs.declared.mark.Mark.{Mark}
use Rattle.nob_drawing_plan.specs.declared.mark.Mark.TheVariants as marks
use Rattle.nob_drawing_plan.specs.declared.bar.Bar.{Bar}
use Rattle.nob_drawing_plan.specs.declared.flight.Departure.{Departure}
use Rattle.nob_drawing_plan.specs.declared.flight.Arrow.{Arrow}
use Rattle.nob_drawing_plan.specs.declared.flight.Stray.{Stray}
use Rattle.nob_drawing_plan.specs.Bars.{row_after}
use Rattle.nob_drawing_choice.specs.Lives.{names_at}
use Rattle.nob_drawing_choice.specs.Plans.{place_of as place_drawn}
use Rattle.nob_drawing.specs.declared.page.Page.{Page}
use Rattle.nob_drawing.specs.declared.shape.Point.{Point}
use Rattle.nob_drawing.specs.declared.shape.Style.{Style}
use Rattle.nob_drawing.specs.declared.shape.Style.TheVariants as styles
use Rattle.nob_drawing.specs.declared.shape.Shape.{Shape}
use Rattle.nob_drawing.specs.declared.shape.Shape.TheVariants as shapes
use Rattle.nob_drawing.specs.Words.{entry_words, frame_label, lives_words, mark_words, mark_rep, cut}
use Rattle.nob_drawing.specs.Glosses.{entry_gloss, is_empty}
use Rattle.nob_drawing.specs.Titles.{title_words, shown_words, is_whole}

-- the place of a row among those that are shown: 0 for one above them, one more than there are for one below
abbrev pub place_of : Page → ℕ → ℕ
place_of page row = min (max row (page.from - 1)) (page.to + 1) - (page.from - 1)

-- how far down it stands
abbrev pub y_of : Page → ℕ → ℕ
y_of page row = 120 + 16 * place_of page row

-- how far to the right the lifeline of a space stands
abbrev pub x_of : ℕ → ℕ
x_of space = 250 + 250 * space

-- a point on the lifeline of a space at a row
abbrev pub point_at : Page → (space row : ℕ) → Point
point_at page space row = record { x = x_of space; y = y_of page row }

-- where the lifelines end
abbrev pub bottom_of : Page → ℕ
bottom_of page = y_of page (page.to + 1)

-- how wide the drawing is
abbrev pub width_of : Page → ℕ
width_of page = x_of page.n + 120

-- how high it is
abbrev pub height_of : Page → ℕ
height_of page = bottom_of page + 24

-- whether a row is shown
abbrev pub is_shown : Page → ℕ → Bool
is_shown page row = nat_le page.from row && nat_le row page.to

-- whether something is that goes from one row to another
abbrev pub is_seen : Page → (start end : ℕ) → Bool
is_seen page start end = nat_le start page.to && nat_le page.from end

-- of which run it is, and below that what of it is shown, if that isn't all
abbrev pub title_shapes : Page → List Shape
title_shapes page = shapes.Text styles.Title (record { x = 12; y = 20 }) (title_words page) ∷ (if is_whole page then [] else shapes.Text styles.Shown (record { x = 12; y = 38 }) (shown_words page) ∷ [])

-- the lifeline of a space
abbrev pub lifeline : Page → ℕ → Shape
lifeline page space = shapes.Line styles.Life (record { x = x_of space; y = 112 }) (record { x = x_of space; y = bottom_of page })

-- its name
abbrev pub lifeline_name : ℕ → Shape
lifeline_name space = shapes.Text styles.Name (record { x = x_of space; y = 102 }) (codes "space " ++ decimal space)

-- the lifelines with their names of so many spaces, from this one on
abbrev pub lifelines_from : Page → (space count : ℕ) → List Shape
lifelines_from page space zero = []
lifelines_from page space (suc count) = lifeline page space ∷ lifeline_name space ∷ lifelines_from page (space + 1) count

-- how a result is shown: as a close, as an answer, or refused
abbrev pub result_style : Result Answer Refusal → Style
result_style (Ok (Closed reason)) = styles.Closing
result_style (Ok _) = styles.Answered
result_style (Err refusal) = styles.Refused

-- whether the entry of a number is the one that is wrong
abbrev pub is_fault_at : Option ℕ → ℕ → Bool
is_fault_at None number = false
is_fault_at (Some place) number = place == number

-- how the entry of a number is shown: as wrong, or as its result is
abbrev pub entry_style : Page → (number : ℕ) → Entry → Style
entry_style page number entry = if is_fault_at page.fault number then styles.Fault else result_style entry.result

-- a text of an entry at a row
abbrev pub text_at : Page → (row : ℕ) → Style → List ℕ → Shape
text_at page row style words = shapes.Text style (record { x = 44; y = y_of page row + 4 }) (cut 62 words)

-- the text of the entry of a number, at a row
abbrev pub entry_text : Page → (row number : ℕ) → Entry → Shape
entry_text page row number entry = text_at page row (entry_style page number entry) (entry_words entry)

-- words beside a text of so many signs at a row, where there is room for some of them
abbrev pub gloss_shapes : Page → (row signs : ℕ) → List ℕ → List Shape
gloss_shapes page row signs words = if not (is_empty words) && nat_le signs 52 then shapes.Text styles.Gloss (record { x = 44 + 7 * signs; y = y_of page row + 4 }) (cut (60 - signs) words) ∷ [] else []

-- what is said beside the text of an entry
abbrev pub entry_glosses : Page → (row : ℕ) → Entry → List Shape
entry_glosses page row entry = gloss_shapes page row (length (entry_words entry)) (entry_gloss entry)

-- the point on its lifeline
abbrev pub entry_dot : Page → (row number : ℕ) → Entry → Shape
entry_dot page row number entry = shapes.Rectangle (entry_style page number entry) (record { x = x_of entry.space - 3; y = y_of page row - 3 }) 6 6

-- the number of an entry, with the references of whose lives its row is part
abbrev pub row_number : Page → (row number : ℕ) → List WireRep → Shape
row_number page row number names = shapes.Noted styles.Number (record { x = 36; y = y_of page row + 4 }) (lives_words names) (decimal number)

-- a faint line from the text of an entry to its lifeline
abbrev pub guide : Page → ℕ → Entry → Shape
guide page row entry = shapes.Line styles.Guide (record { x = 470; y = y_of page row }) (point_at page entry.space row)

-- the entry of a number at a row, which is part of the lives of these references
abbrev pub entry_shapes : Page → (row number : ℕ) → List WireRep → Entry → List Shape
entry_shapes page row number names entry = row_number page row number names ∷ entry_text page row number entry ∷ guide page row entry ∷ entry_dot page row number entry ∷ entry_glosses page row entry

-- the entry of a number, where it has a row that is shown
abbrev pub entry_at : Page → Option ℕ → (number : ℕ) → List WireRep → Entry → List Shape
entry_at page None number names entry = []
entry_at page (Some row) number names entry = if is_shown page row then entry_shapes page row number names entry else []

-- the entries of a journal that are shown, where these are their rows, and the references of whose lives they are part
abbrev pub entries_shapes : Page → List (Option ℕ) → List (List WireRep) → List Entry → List Shape
entries_shapes page places lives [] = []
entries_shapes page places lives (entry ∷ J) = entries_shapes page places lives J ++ entry_at page (place_drawn places (row_after J)) (row_after J) (names_at lives (row_after J)) entry

-- how an arrow is drawn: thin where its item was given before, grey where it took nothing
abbrev pub arrow_style : (again took_nothing : Bool) → Style
arrow_style false false = styles.Sent
arrow_style true false = styles.Again
arrow_style false true = styles.TookNothing
arrow_style true true = styles.TookNothingAgain

-- whether an arrow is seen
abbrev pub is_arrow_seen : Page → Arrow → Bool
is_arrow_seen page arrow = is_seen page arrow.departure.row arrow.row

-- how an arrow is drawn of which a part is shown: dotted, and grey where it took nothing
abbrev pub part_style : (took_nothing : Bool) → Style
part_style false = styles.Part
part_style true = styles.PartTookNothing

-- the same of an arrow whose head isn't shown
abbrev pub open_style : (took_nothing : Bool) → Style
open_style false = styles.Open
open_style true = styles.OpenTookNothing

-- how the line of an arrow looks: as the whole arrow where both its ends are shown, else as a part of it, without a head where that isn't shown
abbrev pub line_style : Page → Arrow → Style
line_style page arrow =
    if is_shown page arrow.row
    then (if is_shown page arrow.departure.row then arrow_style arrow.departure.again arrow.took_nothing else part_style arrow.took_nothing)
    else open_style arrow.took_nothing

-- how far to the right a line is that goes from one place to another in so many rows, once it has passed some of them
abbrev pub slanted : (start end passed rows : ℕ) → ℕ
slanted start end passed rows = if nat_le start end then start + (end - start) * passed / rows else start - (start - end) * passed / rows

-- how many rows an arrow goes down
abbrev pub rows_of : Arrow → ℕ
rows_of arrow = max (arrow.row - arrow.departure.row) 1

-- the point at a row of the line from its Transmit to its Arrive
abbrev pub point_of : Page → Arrow → ℕ → Point
point_of page arrow row = record { x = slanted (x_of arrow.departure.space) (x_of arrow.to) (row - arrow.departure.row) (rows_of arrow); y = y_of page row }

-- the first row at which it is drawn: that of its Transmit, or the one above those that are shown
abbrev pub first_row : Page → Arrow → ℕ
first_row page arrow = max arrow.departure.row (page.from - 1)

-- the last one: that of its Arrive, or the one below those that are shown
abbrev pub last_row : Page → Arrow → ℕ
last_row page arrow = min arrow.row (page.to + 1)

-- an arrow: from the lifeline of its Transmit to that of its Arrive, as far as its rows are shown
abbrev pub arrow_line : Page → Arrow → Shape
arrow_line page arrow = shapes.Line (line_style page arrow) (point_of page arrow (first_row page arrow)) (point_of page arrow (last_row page arrow))

-- the lines of the arrows that are seen
abbrev pub arrows_lines : Page → List Arrow → List Shape
arrows_lines page all = map (arrow_line page) (filter (is_arrow_seen page) all)

-- how a lost frame is drawn
abbrev pub lost_style : (again : Bool) → Style
lost_style false = styles.Lost
lost_style true = styles.LostAgain

-- whether a lost frame goes to the right
abbrev pub goes_right : Departure → Bool
goes_right departure = nat_lt departure.space departure.frame.to

-- how much farther it reaches than the first frame of its Transmit: words have room beside the first two
abbrev pub lost_more : ℕ → ℕ
lost_more place = 110 * min place 2 + 12 * min (place - 2) 8

-- how far to the right it ends: a little way towards its receiver
abbrev pub lost_x : Bool → (x more : ℕ) → ℕ
lost_x true x more = x + (40 + more)
lost_x false x more = x - (40 + more)

-- where it ends: beside its Transmit, a little below its row
abbrev pub lost_end : Page → Departure → Point
lost_end page departure = record { x = lost_x (goes_right departure) (x_of departure.space) (lost_more departure.place); y = y_of page departure.row + 5 }

-- a little way in front of that, from where it comes
abbrev pub near_end : Bool → Point → Point
near_end true end = record { x = end.x - 8; y = end.y }
near_end false end = record { x = end.x + 8; y = end.y }

-- where it begins: at its Transmit, or near its end where another one lies between
abbrev pub lost_start : Page → Departure → Point
lost_start page departure = if departure.place == 0 then point_at page departure.space departure.row else near_end (goes_right departure) (lost_end page departure)

-- its line
abbrev pub lost_line : Page → Departure → Shape
lost_line page departure = shapes.Line (lost_style departure.again) (lost_start page departure) (lost_end page departure)

-- one line of a cross: from above
abbrev pub falling : Point → Shape
falling at = shapes.Line styles.Cross (record { x = at.x - 4; y = at.y - 4 }) (record { x = at.x + 4; y = at.y + 4 })

-- the other one: from below
abbrev pub rising : Point → Shape
rising at = shapes.Line styles.Cross (record { x = at.x - 4; y = at.y + 4 }) (record { x = at.x + 4; y = at.y - 4 })

-- words that go on from a point, to the right or to the left
abbrev pub end_words : Bool → Point → List ℕ → Shape
end_words true end words = shapes.Text styles.Behind (record { x = end.x + 8; y = end.y + 4 }) words
end_words false end words = shapes.Text styles.Before (record { x = end.x - 8; y = end.y + 4 }) words

-- the words at the first two
abbrev pub lost_words : Page → Departure → List Shape
lost_words page departure = if nat_lt departure.place 2 then end_words (goes_right departure) (lost_end page departure) (cut 12 (frame_label departure.frame)) ∷ [] else []

-- a lost frame: its line, the cross at its end, and its words
abbrev pub lost_shapes : Page → Departure → List Shape
lost_shapes page departure = if is_shown page departure.row then lost_line page departure ∷ falling (lost_end page departure) ∷ rising (lost_end page departure) ∷ lost_words page departure else []

-- whether what arrives without an origin says that it is from the left
abbrev pub is_from_left : Stray → Bool
is_from_left stray = nat_lt stray.frame.from stray.to

-- how far to the right it begins
abbrev pub stray_x : Bool → ℕ → ℕ
stray_x true x = x - 40
stray_x false x = x + 40

-- where it begins
abbrev pub stray_start : Page → Stray → Point
stray_start page stray = record { x = stray_x (is_from_left stray) (x_of stray.to); y = y_of page stray.row }

-- a little below it, where its words stand
abbrev pub below : Point → Point
below at = record { x = at.x; y = at.y + 5 }

-- the mark there
abbrev pub void_mark : Point → Shape
void_mark at = shapes.Line styles.Void (record { x = at.x; y = at.y - 5 }) (record { x = at.x; y = at.y + 5 })

-- the words at the head of what arrives on a side, below it
abbrev pub side_words : Page → (is_left : Bool) → (to row : ℕ) → List ℕ → Shape
side_words page true to row words = shapes.Text styles.Before (record { x = x_of to - 10; y = y_of page row + 11 }) words
side_words page false to row words = shapes.Text styles.Behind (record { x = x_of to + 50; y = y_of page row + 11 }) words

-- the words of an arrow: in front of the lifeline that it comes to, on the side from which it comes
abbrev pub head_words : Page → Arrow → Shape
head_words page arrow = side_words page (nat_lt arrow.departure.space arrow.to) arrow.to arrow.row (cut 32 (frame_label arrow.departure.frame))

-- the words of the arrows whose heads are shown
abbrev pub arrows_words : Page → List Arrow → List Shape
arrows_words page all = map (head_words page) (filter (λ arrow. is_shown page arrow.row) all)

-- an arrival without an origin, where it is shown: an arrow out of nothing
abbrev pub stray_shapes : Page → Stray → List Shape
stray_shapes page stray =
    if is_shown page stray.row
    then shapes.Line styles.Stray (stray_start page stray) (point_at page stray.to stray.row) ∷ void_mark (stray_start page stray) ∷ end_words (not (is_from_left stray)) (below (stray_start page stray)) (cut 24 (codes "from nowhere: " ++ frame_label stray.frame)) ∷ []
    else []

-- how a bar is drawn
abbrev pub mark_style : Mark → Style
mark_style (marks.Live rep) = styles.Live
mark_style (marks.Listed rep client) = styles.Listed
mark_style (marks.Pinned rep peer session item) = styles.Pinned

-- the row at which a bar ends: below all that are shown where it goes on
abbrev pub end_of : Page → Option ℕ → ℕ
end_of page None = page.to + 1
end_of page (Some row) = row

-- how far to the right a bar stands: in its lane beside its lifeline
abbrev pub bar_x : Bar → ℕ
bar_x bar = x_of bar.space + 8 + 11 * bar.lane

-- how high it is
abbrev pub bar_height : Page → Bar → ℕ
bar_height page bar = y_of page (end_of page bar.end) - y_of page bar.start

-- its box, which says whose it is
abbrev pub bar_box : Page → Bar → Shape
bar_box page bar = shapes.Titled (mark_style bar.mark) (record { x = bar_x bar; y = y_of page bar.start }) 9 (bar_height page bar) (mark_words bar.mark)

-- how much room words take in a bar
abbrev pub room_of : List ℕ → ℕ
room_of words = 5 * length words + 6

-- the words in a bar so high: what holds, or where there is no room for that just of which reference
abbrev pub words_within : ℕ → Mark → List ℕ
words_within height mark = if nat_le (room_of (mark_words mark)) height then mark_words mark else mark_rep mark

-- how often words stand in a bar so high: once in each screenful, where there is room for them
abbrev pub times_within : (height : ℕ) → List ℕ → ℕ
times_within height words = if nat_le (room_of words) height then (height - room_of words) / 640 + 1 else 0

-- words in a bar so many screenfuls below its beginning
abbrev pub bar_label : Page → Bar → List ℕ → ℕ → Shape
bar_label page bar words below = shapes.Turned styles.Held (record { x = bar_x bar + 2; y = y_of page bar.start + 3 + 640 * below }) words

-- the words in a bar so often
abbrev pub bar_labels : Page → Bar → List ℕ → ℕ → List Shape
bar_labels page bar words zero = []
bar_labels page bar words (suc times) = bar_labels page bar words times ++ bar_label page bar words times ∷ []

-- its words
abbrev pub bar_words : Page → Bar → List ℕ → List Shape
bar_words page bar words = bar_labels page bar words (times_within (bar_height page bar) words)

-- a bar, where it is seen
abbrev pub bar_shapes : Page → Bar → List Shape
bar_shapes page bar = if is_seen page bar.start (end_of page bar.end) then bar_box page bar ∷ bar_words page bar (words_within (bar_height page bar) bar.mark) else []

-- all that goes from lifeline to lifeline, or should
abbrev pub flown : Page → List Arrow → List Departure → List Stray → List Shape
flown page arrows lost strays = arrows_lines page arrows ++ (flat_map (lost_shapes page) lost ++ (flat_map (stray_shapes page) strays ++ arrows_words page arrows))

-- all that stands in a drawing of a journal, where rows, of whose lives they are part, bars, arrows, lost frames and arrivals without an origin are these
abbrev pub drawing : Page → List (Option ℕ) → List (List WireRep) → List Bar → List Arrow → List Departure → List Stray → List Entry → List Shape
drawing page places lives bars arrows lost strays J = title_shapes page ++ (lifelines_from page 1 page.n ++ (entries_shapes page places lives J ++ (flat_map (bar_shapes page) bars ++ flown page arrows lost strays)))
