-- The words that stand in a drawing: of frames, entries and bars.
use Rattle.std.specs.Prelude.{ℕ, ◌==◌, List, [], ◌∷◌, ◌++◌, length, take, flat_map, nat_le, codes, Option, Some, None, Result, Ok, Err, if◌then◌else◌}
use Rattle.std.specs.Fmt.{decimal}
use Rattle.nob_ids.specs.declared.wire_rep.WireRep.{WireRep}
use Rattle.nob_frame.specs.declared.frame.Frame.{Frame}
use Rattle.nob_frame.specs.declared.frame.FrameKind.{FrameKind}
use Rattle.nob_frame.specs.declared.frame.FrameKind.TheVariants as kinds
use Rattle.nob_item.specs.declared.item.Item.{Item}
use Rattle.nob_item.specs.declared.item.Item.TheVariants as items
use Rattle.nob_model_types.specs.declared.event.Event.{Event}
use Rattle.nob_model_types.specs.declared.event.Event.TheVariants as events
use Rattle.nob_model_types.specs.declared.answer.Answer.{Answer}
use Rattle.nob_model_types.specs.declared.answer.Answer.TheVariants as answers
use Rattle.nob_model_types.specs.declared.refusal.Refusal.{Refusal}
use Rattle.nob_model_types.specs.declared.entry.Entry.{Entry}
use Rattle.nob_model_types.specs.Sessions.{item_spelt}
use Rattle.nob_model_text.specs.Values.{rep_text, value_text}
use Rattle.nob_model_text.specs.Events.{event_text}
use Rattle.nob_model_text.specs.Answers.{answer_text, refusal_text}
use Rattle.nob_pickle.specs.declared.value.Value.{Value}
use Rattle.nob_pickle.specs.declared.value.Value.TheVariants as values
use Rattle.nob_drawing_plan.specs.declared.mark.Mark.{Mark}
use Rattle.nob_drawing_plan.specs.declared.mark.Mark.TheVariants as marks
use Rattle.nob_drawing.specs.Glosses.{agent_method, is_printable, quoted}

-- a word and a reference
abbrev pub about : List ℕ → (owner index : ℕ) → List ℕ
about word owner index = word ++ rep_text (record { owner = owner; index = index })

-- an item from a to b: its kind, and the object, or the number of the call or item, that it is about
abbrev pub item_words : (a b : ℕ) → Item → List ℕ
item_words a b (items.Call call target method value) = about (codes "Call ") b target ++ 32 ∷ (decimal method ++ 32 ∷ value_text value)
item_words a b (items.Reply call status value) = codes "Reply " ++ (decimal call ++ 32 ∷ (decimal status ++ 32 ∷ value_text value))
item_words a b (items.Settle item) = codes "Settle " ++ decimal item
item_words a b (items.Dirty index) = about (codes "Dirty ") b index
item_words a b (items.DirtyOk index) = about (codes "DirtyOk ") a index
item_words a b (items.DirtyNo index) = about (codes "DirtyNo ") a index
item_words a b (items.Clean index) = about (codes "Clean ") b index

-- the item that a Data frame carries, if it carries one
abbrev pub data_words : (a b : ℕ) → Option Item → List ℕ
data_words a b None = codes "no item"
data_words a b (Some item) = item_words a b item

-- the reason in a Close frame
abbrev pub close_words : List ℕ → List ℕ
close_words [] = codes "Close"
close_words (reason ∷ rest) = codes "Close " ++ decimal reason

-- a frame of this kind
abbrev pub words_of : FrameKind → Frame → List ℕ
words_of kinds.Data frame = data_words frame.from frame.to (item_spelt frame.payload)
words_of kinds.Ack frame = codes "Ack " ++ decimal frame.ack
words_of kinds.Close frame = close_words frame.payload

-- a frame: the item that it carries, or what it acknowledges, or why its sender has closed
abbrev pub frame_words : Frame → List ℕ
frame_words frame = words_of frame.kind frame

-- a value at an arrow: bytes as text, if they are one
abbrev pub value_label : Value → List ℕ
value_label values.Unit = value_text values.Unit
value_label (values.Int n) = value_text (values.Int n)
value_label (values.Bytes bytes) = if is_printable bytes then quoted bytes else value_text (values.Bytes bytes)
value_label (values.List elements) = value_text (values.List elements)
value_label (values.Ref rep) = value_text (values.Ref rep)

-- which object of space b is called at an arrow, and which method of it: the object of index 0 is the agent
abbrev pub called : (b target method : ℕ) → List ℕ
called b target method = if target == 0 then codes "Call agent " ++ (agent_method method ++ codes " ") else about (codes "Call ") b target ++ 32 ∷ (decimal method ++ codes " ")

-- what a Reply is of
abbrev pub replied : (call status : ℕ) → List ℕ
replied call status = codes "Reply " ++ (decimal call ++ 32 ∷ (decimal status ++ codes " "))

-- an item at an arrow from a to b
abbrev pub item_label : (a b : ℕ) → Item → List ℕ
item_label a b (items.Call call target method value) = called b target method ++ value_label value
item_label a b (items.Reply call status value) = replied call status ++ value_label value
item_label a b (items.Settle item) = item_words a b (items.Settle item)
item_label a b (items.Dirty index) = item_words a b (items.Dirty index)
item_label a b (items.DirtyOk index) = item_words a b (items.DirtyOk index)
item_label a b (items.DirtyNo index) = item_words a b (items.DirtyNo index)
item_label a b (items.Clean index) = item_words a b (items.Clean index)

-- the item that a Data frame carries, if it carries one
abbrev pub data_label : (a b : ℕ) → Option Item → List ℕ
data_label a b None = codes "no item"
data_label a b (Some item) = item_label a b item

-- a frame of this kind at an arrow
abbrev pub label_of : FrameKind → Frame → List ℕ
label_of kinds.Data frame = data_label frame.from frame.to (item_spelt frame.payload)
label_of kinds.Ack frame = words_of kinds.Ack frame
label_of kinds.Close frame = words_of kinds.Close frame

-- a frame at an arrow
abbrev pub frame_label : Frame → List ℕ
frame_label frame = label_of frame.kind frame

-- frames behind others
abbrev pub behind_words : List Frame → List ℕ
behind_words [] = []
behind_words (frame ∷ frames) = codes ", " ++ (frame_words frame ++ behind_words frames)

-- the frames that a Transmit gave
abbrev pub frames_words : List Frame → List ℕ
frames_words [] = codes "none"
frames_words (frame ∷ frames) = frame_words frame ++ behind_words frames

-- the frame that arrives, where one does
abbrev pub arrival_words : Event → List ℕ
arrival_words (events.Arrive frame) = frame_words frame
arrival_words _ = []

-- the frames that an answer gives, where it gives some
abbrev pub given_words : Answer → List ℕ
given_words (answers.Frames frames) = frames_words frames
given_words _ = []

-- a result, as traces have it save its frames
abbrev pub result_words : Result Answer Refusal → List ℕ
result_words (Ok answer) = answer_text (given_words answer) answer
result_words (Err refusal) = refusal_text refusal

-- an entry, as scripts and traces have it save its frames
abbrev pub entry_words : Entry → List ℕ
entry_words entry = decimal entry.space ++ 32 ∷ (event_text (arrival_words entry.event) entry.event ++ (codes " = " ++ result_words entry.result))

-- what a bar shows
abbrev pub mark_words : Mark → List ℕ
mark_words (marks.Live rep) = rep_text rep ++ codes " live"
mark_words (marks.Listed rep client) = rep_text rep ++ (codes " listed " ++ decimal client)
mark_words (marks.Pinned rep peer session item) = rep_text rep ++ (codes " pinned for " ++ decimal peer)

-- the reference that a bar is of
abbrev pub mark_rep : Mark → List ℕ
mark_rep (marks.Live rep) = rep_text rep
mark_rep (marks.Listed rep client) = rep_text rep
mark_rep (marks.Pinned rep peer session item) = rep_text rep

-- a reference behind a space
abbrev pub life_word : WireRep → List ℕ
life_word rep = 32 ∷ rep_text rep

-- the references of whose lives a row is part
abbrev pub lives_words : List WireRep → List ℕ
lives_words names = flat_map life_word names

-- words that are too long are cut
abbrev pub cut : (most : ℕ) → List ℕ → List ℕ
cut most words = if nat_le (length words) most then words else take most words ++ codes ".."
