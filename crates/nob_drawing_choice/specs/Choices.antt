-- Which rows of a run are drawn. Rows count from 1 in merged order, and the newest entry of a journal stands FIRST.
use Rattle.std.specs.Prelude.{ℕ, suc, Bool, true, false, ◌&&◌, ◌||◌, not, ◌==◌, List, [], ◌∷◌, ◌++◌, Option, Some, None, is_some, Result, Ok, Err, if◌then◌else◌}
use Rattle.std.specs.List.{list_any, list_all}
use Rattle.nob_ids.specs.declared.wire_rep.WireRep.{WireRep}
use Rattle.nob_frame.specs.Kinds.{is_ack}
use Rattle.nob_frame.specs.declared.frame.Frame.{Frame}
use Rattle.nob_model_types.specs.declared.event.Event.{Event}
use Rattle.nob_model_types.specs.declared.event.Event.TheVariants.{Arrive}
use Rattle.nob_model_types.specs.declared.answer.Answer.{Answer}
use Rattle.nob_model_types.specs.declared.answer.Answer.TheVariants.{Frames, Took}
use Rattle.nob_model_types.specs.declared.refusal.Refusal.{Refusal}
use Rattle.nob_model_types.specs.declared.entry.Entry.{Entry}
use Rattle.nob_drawing_plan.specs.Bars.{row_after}
use Rattle.nob_drawing_choice.specs.declared.choice.Choice.{Choice}
use Rattle.nob_drawing_choice.specs.Lives.{names_at}

-- nothing is asked for: all rows
abbrev pub all_rows : Choice
all_rows = record { owner = None; index = None; space = None; brief = false }

-- whether a number is the one that is asked for, if any is
abbrev pub is_asked : Option ℕ → ℕ → Bool
is_asked None number = true
is_asked (Some asked) number = asked == number

-- whether a reference is one whose life is asked for
abbrev pub is_subject : Choice → WireRep → Bool
is_subject choice rep = is_asked choice.owner rep.owner && is_asked choice.index rep.index

-- whether a life is asked for
abbrev pub has_subject : Choice → Bool
has_subject choice = is_some choice.owner || is_some choice.index

-- whether an entry is part of the life that is asked for, where it is part of the lives of these references
abbrev pub is_in_life : Choice → List WireRep → Bool
is_in_life choice names = list_any (is_subject choice) names

-- whether a frame is from or to the space that is asked for
abbrev pub is_with : Choice → Frame → Bool
is_with choice frame = is_asked choice.space frame.from || is_asked choice.space frame.to

-- whether a frame arrives that is
abbrev pub brings : Choice → Event → Bool
brings choice (Arrive frame) = is_with choice frame
brings choice _ = false

-- whether a frame is given that is
abbrev pub gives : Choice → Result Answer Refusal → Bool
gives choice (Ok (Frames frames)) = list_any (is_with choice) frames
gives choice _ = false

-- whether an entry is of the space that is asked for, or a frame from or to that one arrives or is given by it
abbrev pub is_in_part : Choice → Entry → Bool
is_in_part choice entry = is_asked choice.space entry.space || (brings choice entry.event || gives choice entry.result)

-- whether there are frames, and all are Acks
abbrev pub are_acks : List Frame → Bool
are_acks [] = false
are_acks (frame ∷ frames) = is_ack frame.kind && list_all (λ other. is_ack other.kind) frames

-- whether an Ack arrives
abbrev pub brings_ack : Event → Bool
brings_ack (Arrive frame) = is_ack frame.kind
brings_ack _ = false

-- whether an event with this result is left out of what is brief: it is refused, an Ack arrives and closes nothing, or nothing but Acks is given
abbrev pub is_small : Event → Result Answer Refusal → Bool
is_small event (Err refusal) = true
is_small event (Ok (Took count)) = brings_ack event
is_small event (Ok (Frames frames)) = are_acks frames
is_small event (Ok _) = false

-- whether the entry at a row is the one that is wrong
abbrev pub is_wrong : Option ℕ → ℕ → Bool
is_wrong None row = false
is_wrong (Some place) row = place == row

-- whether the entry at a row is drawn, where each row is part of the lives of these references: a wrong one always is
abbrev pub is_chosen : Choice → Option ℕ → List (List WireRep) → ℕ → Entry → Bool
is_chosen choice fault lives row entry =
    is_wrong fault row
    || (is_in_part choice entry && (not (choice.brief && is_small entry.event entry.result) && (not (has_subject choice) || is_in_life choice (names_at lives row))))

-- how many entries are drawn with the one at a row, after so many others
abbrev pub count_behind : Choice → Option ℕ → List (List WireRep) → (row count : ℕ) → Entry → ℕ
count_behind choice fault lives row count entry = if is_chosen choice fault lives row entry then suc count else count

-- how many entries of a journal are drawn
abbrev pub count_chosen : Choice → Option ℕ → List (List WireRep) → List Entry → ℕ
count_chosen choice fault lives [] = 0
count_chosen choice fault lives (entry ∷ J) = count_behind choice fault lives (row_after J) (count_chosen choice fault lives J) entry

-- the place of the entry at a row among those that are drawn, after so many others: none where it isn't
abbrev pub place_behind : Choice → Option ℕ → List (List WireRep) → (row count : ℕ) → Entry → Option ℕ
place_behind choice fault lives row count entry = if is_chosen choice fault lives row entry then Some (suc count) else None

-- the place of each row of a journal among those that are drawn, from 1, the first row first: none of a row that isn't
abbrev pub places : Choice → Option ℕ → List (List WireRep) → List Entry → List (Option ℕ)
places choice fault lives [] = []
places choice fault lives (entry ∷ J) = places choice fault lives J ++ place_behind choice fault lives (row_after J) (count_chosen choice fault lives J) entry ∷ []
