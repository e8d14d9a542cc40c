-- The one spelling of each entry in traces of a version.
use Rattle.std.specs.Prelude.{◌≡◌, ℕ, Bool, true, false, ◌<◌, ◌^◌, List, [], ◌∷◌, ◌++◌, codes, Result, Ok, Err}
use Rattle.std.specs.List.{AllByRecursion}
use Rattle.std.specs.Fmt.{decimal}
use Rattle.nob_frame.specs.declared.version.Version.{Version}
use Rattle.nob_frame.specs.declared.version.Version.TheVariants.{One, Two}
use Rattle.nob_frame.specs.Spelling.{Fits}
use Rattle.nob_model_types.specs.declared.event.Event.{Event}
use Rattle.nob_model_types.specs.declared.event.Event.TheVariants as events
use Rattle.nob_model_types.specs.declared.answer.Answer.{Answer}
use Rattle.nob_model_types.specs.declared.answer.Answer.TheVariants as answers
use Rattle.nob_model_types.specs.declared.refusal.Refusal.{Refusal}
use Rattle.nob_model_text.specs.Events.{event_text, IsSpoken}
use Rattle.nob_model_text.specs.Answers.{answer_text, refusal_text}
use Rattle.nob_model_reading.specs.Told.{IsTold}
use Rattle.nob_trace.specs.declared.stamped.Stamped.{Stamped}
use Rattle.nob_trace.specs.Frames.{frame_text, frames_text, IsFramed}

-- the frame's text of an arrival, and none of another event
abbrev pub arrival_text : Version → Event → List ℕ
arrival_text version (events.Arrive frame) = frame_text version frame
arrival_text version event = []

-- the frames' text of a transmit's answer, and none of another answer
abbrev pub transmit_text : Version → Answer → List ℕ
transmit_text version (answers.Frames frames) = frames_text version frames
transmit_text version answer = []

-- an answer or a refusal
abbrev pub result_text : Version → Result Answer Refusal → List ℕ
result_text version (Ok answer) = answer_text (transmit_text version answer) answer
result_text version (Err refusal) = refusal_text refusal

-- an entry: its stamp, its event, and its result behind an equals sign
abbrev pub entry_text : Version → Stamped → List ℕ
entry_text version entry = decimal entry.stamp ++ 32 ∷ (event_text (arrival_text version entry.event) entry.event ++ (codes " = " ++ result_text version entry.result))

-- whether traces of a version have an event that opens a session anew: version 1 knows the first sessions alone
abbrev pub can_open : Version → Bool
can_open One = false
can_open Two = true

-- whether traces of a version have an event
abbrev pub has_event : Version → Event → Bool
has_event version (events.Open peer) = can_open version
has_event version event = true

-- a frame that arrives has a spelling, and a session is opened anew where the version has that
abbrev pub EventFits : Version → Event → Type 0
EventFits version (events.Arrive frame) = Fits version frame
EventFits version (events.Open peer) = can_open version ≡ true
EventFits version event = Unit {0}

-- frames that a transmit gave have spellings
abbrev pub TransmitFits : Version → Result Answer Refusal → Type 0
TransmitFits version (Ok (answers.Frames frames)) = AllByRecursion (Fits version) frames
TransmitFits version (Ok answer) = Unit {0}
TransmitFits version (Err refusal) = Unit {0}

-- an entry in which each frame has a spelling, and whose event the version has
abbrev pub HasSpelling : Version → Stamped → Type 0
HasSpelling version entry = EventFits version entry.event × TransmitFits version entry.result

-- an event that a trace of a version can have: one that a script can have, unless it opens a session and the version has no such event, or the arrival of a frame that bytes spell
abbrev pub IsTracedEvent : Version → Event → Type 0
IsTracedEvent version (events.Arrive frame) = IsFramed version frame
IsTracedEvent version (events.Open peer) = (can_open version ≡ true) × IsSpoken (events.Open peer)
IsTracedEvent version event = IsSpoken event

-- a result that a trace can have: a refusal, frames that bytes spell, or another answer whose numbers are of their types
abbrev pub IsTracedResult : Version → Result Answer Refusal → Type 0
IsTracedResult version (Ok (answers.Frames frames)) = AllByRecursion (IsFramed version) frames
IsTracedResult version (Ok answer) = IsTold answer
IsTracedResult version (Err refusal) = Unit {0}

-- an entry that a trace can have
abbrev pub IsTraced : Version → Stamped → Type 0
IsTraced version entry = (entry.stamp < 2 ^ 64) × IsTracedEvent version entry.event × IsTracedResult version entry.result
