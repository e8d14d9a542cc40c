-- What is true of every choice.
use Rattle.std.specs.Prelude.{◌≡◌, ℕ, Bool, true, false, ◌&&◌, ◌==◌, List, ◌∷◌, ◌++◌, Some, None, Ok}
use Rattle.std.specs.List.{list_any, Contains}
use Rattle.nob_ids.specs.declared.wire_rep.WireRep.{WireRep}
use Rattle.nob_frame.specs.declared.frame.Frame.{Frame}
use Rattle.nob_model_types.specs.declared.event.Event.TheVariants.{Arrive}
use Rattle.nob_model_types.specs.declared.entry.Entry.{Entry}
use Rattle.nob_model_types.specs.declared.answer.Answer.TheVariants.{Frames}
use Rattle.nob_drawing_plan.specs.declared.bar.Bar.{Bar}
use Rattle.nob_drawing_plan.specs.Bars.{row_after}
use Rattle.nob_drawing_choice.specs.declared.choice.Choice.{Choice}
use Rattle.nob_drawing_choice.specs.Naming.{names_of_frame}
use Rattle.nob_drawing_choice.specs.Lives.{subject_of, turns_at, lives_at, lives_of, names_at}
use Rattle.nob_drawing_choice.specs.Choices.{is_subject, is_in_life, is_in_part, is_with, is_chosen}

-- of whose lives a row is part by the list of them all is what its entry and its bars say
abbrev pub LivesAreOfRows : Type 0
LivesAreOfRows = (bars : List Bar) (later earlier : List Entry) (entry : Entry) → names_at (lives_of bars (later ++ entry ∷ earlier)) (row_after earlier) ≡ lives_at bars (row_after earlier) entry

-- the life of one reference is asked for, and nothing else
abbrev pub life_of : (owner index : ℕ) → Choice
life_of owner index = record { owner = Some owner; index = Some index; space = None; brief = false }

-- whether a reference has this owner and index
abbrev pub is_rep : (owner index : ℕ) → WireRep → Bool
is_rep owner index rep = owner == rep.owner && index == rep.index

-- where nothing is wrong, the rows that are drawn of the life of a reference are those among whose references it is
abbrev pub LifeIsOfRows : Type 0
LifeIsOfRows = (owner index : ℕ) (lives : List (List WireRep)) (row : ℕ) (entry : Entry) → is_chosen (life_of owner index) None lives row entry ≡ list_any (is_rep owner index) (names_at lives row)

-- whether a frame is part of a choice: it names the reference whose life is asked for, and is from or to the space
pub record IsOfChoice (choice : Choice) (frame : Frame) : Type 0 where
  pub named : list_any (is_subject choice) (names_of_frame frame) ≡ true
  pub goes : is_with choice frame ≡ true

-- the entry at a row is part of the life and of the space that are asked for, where these are all bars
pub record IsIn (choice : Choice) (bars : List Bar) (row : ℕ) (entry : Entry) : Type 0 where
  pub life : is_in_life choice (lives_at bars row entry) ≡ true
  pub part : is_in_part choice entry ≡ true

-- a life has the rows at which its bars begin and end
abbrev pub TurnsAreIn : Type 0
TurnsAreIn = (choice : Choice) (bars : List Bar) (bar : Bar) (row : ℕ) (entry : Entry) → Contains bars bar → is_subject choice (subject_of bar.mark) ≡ true → turns_at row bar ≡ true → is_in_life choice (lives_at bars row entry) ≡ true

-- of a frame that is part of a choice, the entry by which it arrives and each whose answer gave it are part of it, too
pub record BothEndsAreIn : Type 0 where
  pub arrives : (choice : Choice) (bars : List Bar) (row : ℕ) (entry : Entry) (frame : Frame) → IsOfChoice choice frame → entry.event ≡ Arrive frame → IsIn choice bars row entry
  pub given : (choice : Choice) (bars : List Bar) (row : ℕ) (entry : Entry) (frame : Frame) (frames : List Frame) → IsOfChoice choice frame → entry.result ≡ Ok (Frames frames) → Contains frames frame → IsIn choice bars row entry
