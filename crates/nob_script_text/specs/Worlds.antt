-- The world that a script speaks of: its spaces answer by the definitions.
use Rattle.std.specs.Prelude.{◌≡◌, ℕ, ◌+◌, nat_lt, Bool, not, List, [], ◌∷◌, ◌++◌, length, codes, Option, Some, None, is_some, Result, Ok, Err, if◌then◌else◌}
use Rattle.std.specs.Fmt.{decimal}
use Rattle.nob_ids.specs.declared.limits.Limits.{Limits}
use Rattle.nob_frame.specs.declared.frame.Frame.{Frame}
use Rattle.nob_model_types.specs.declared.event.Event.{Event}
use Rattle.nob_model_types.specs.declared.event.Event.TheVariants as events
use Rattle.nob_model_types.specs.declared.answer.Answer.{Answer}
use Rattle.nob_model_types.specs.declared.answer.Answer.TheVariants as answers
use Rattle.nob_model_types.specs.declared.refusal.Refusal.{Refusal}
use Rattle.nob_model_types.specs.declared.entry.Entry.{Entry}
use Rattle.nob_model_types.specs.declared.entry.WorldStep.{WorldStep}
use Rattle.nob_model_types.specs.declared.entry.WorldStep.TheVariants as steps
use Rattle.nob_model_types.specs.Deeds.{deed_in}
use Rattle.nob_model.specs.Right.{right}
use Rattle.nob_model_journal.specs.Journals.{at, frames_of}
use Rattle.nob_model_journal.specs.Runs.{frame_of}
use Rattle.nob_model_text.specs.Answers.{answer_text, refusal_text}

-- spaces and what they did
pub record World : Type 0 where
  -- how many spaces there are
  pub n : ℕ
  -- the limits of their sessions
  pub limits : Limits
  -- the entries of all of them, the newest of which stands first
  pub journal : List Entry
  -- the frames that were ever transmitted, the first one first
  pub frames : List Frame

-- so many spaces with these limits, which did nothing
abbrev pub new_world : ℕ → Limits → World
new_world n limits = record { n = n; limits = limits; journal = []; frames = [] }

-- the right answer of a space of the world to an event
abbrev pub right_in : World → ℕ → Event → Result Answer Refusal
right_in world space event = right space world.n world.limits (at space world.journal) event

-- the frames that an answer tells
abbrev pub frames_in : Answer → List Frame
frames_in (answers.Frames frames) = frames
frames_in answer = []

-- numbers of frames, each behind a space, where so many were transmitted before
abbrev pub numbers_text : ℕ → List Frame → List ℕ
numbers_text before [] = []
numbers_text before (frame ∷ frames) = 32 ∷ (decimal (before + 1) ++ numbers_text (before + 1) frames)

-- the frames of a transmit in a script, where so many were transmitted before
abbrev pub frames_text : ℕ → List Frame → List ℕ
frames_text before [] = codes "frames none"
frames_text before (frame ∷ frames) = codes "frames" ++ numbers_text before (frame ∷ frames)

-- a result in a script, where so many frames were transmitted before
abbrev pub result_text : ℕ → Result Answer Refusal → List ℕ
result_text before (Ok answer) = answer_text (frames_text before (frames_in answer)) answer
result_text before (Err refusal) = refusal_text refusal

-- what is written of a step, and the world after it
abbrev pub Outcome : Type 0
Outcome = List ℕ × World

-- the entry of a space for an event, with its right answer
abbrev pub entry_in : World → ℕ → Event → Entry
entry_in world space event = record { space = space; event = event; result = right_in world space event }

-- the world with one entry more, and the frames that it gave
abbrev pub with_entry : World → Entry → World
with_entry world entry = record { n = world.n; limits = world.limits; journal = entry ∷ world.journal; frames = world.frames ++ frames_of (deed_in entry) }

-- the text of a space's right answer to an event, and the world with that entry
abbrev pub does : World → ℕ → Event → Outcome
does world space event = (result_text (length world.frames) (right_in world space event), with_entry world (entry_in world space event))

-- a frame arrives at the space that it goes to, where there is one: else X2
abbrev pub delivers : World → Option Frame → Outcome
delivers world None = (codes "X2", world)
delivers world (Some frame) = does world frame.to (events.Arrive frame)

-- whether a step makes an entry: there is its space, or its frame
abbrev pub makes_entry : World → WorldStep → Bool
makes_entry world (steps.Do space event) = not (nat_lt world.n space)
makes_entry world (steps.Deliver number) = is_some (frame_of number world.frames)

-- a step: X1 where there is no such space
abbrev pub outcome_of : World → WorldStep → Outcome
outcome_of world (steps.Do space event) = if nat_lt world.n space then (codes "X1", world) else does world space event
outcome_of world (steps.Deliver number) = delivers world (frame_of number world.frames)
