-- Which references an entry names.
use Rattle.std.specs.Prelude.{ℕ, List, [], ◌∷◌, ◌++◌, flat_map, Option, Some, None, Result, Ok, Err}
use Rattle.nob_ids.specs.declared.wire_rep.WireRep.{WireRep}
use Rattle.nob_pickle.specs.Spelling.{refs_in}
use Rattle.nob_frame.specs.declared.frame.Frame.{Frame}
use Rattle.nob_frame.specs.declared.frame.FrameKind.{FrameKind}
use Rattle.nob_frame.specs.declared.frame.FrameKind.TheVariants as kinds
use Rattle.nob_item.specs.declared.item.Item.{Item}
use Rattle.nob_item.specs.declared.item.Item.TheVariants as items
use Rattle.nob_model_types.specs.declared.event.Outcome.{Outcome}
use Rattle.nob_model_types.specs.declared.event.Outcome.TheVariants as outcomes
use Rattle.nob_model_types.specs.declared.event.Event.{Event}
use Rattle.nob_model_types.specs.declared.event.Event.TheVariants as events
use Rattle.nob_model_types.specs.declared.answer.Answer.{Answer}
use Rattle.nob_model_types.specs.declared.answer.Answer.TheVariants as answers
use Rattle.nob_model_types.specs.declared.refusal.Refusal.{Refusal}
use Rattle.nob_model_types.specs.declared.entry.Entry.{Entry}
use Rattle.nob_model_types.specs.Sessions.{item_spelt}

-- an object of a space
abbrev pub object_of : (owner index : ℕ) → WireRep
object_of owner index = record { owner = owner; index = index }

-- an item from a to b names the object that it is about, and the references in its value
abbrev pub names_of_item : (a b : ℕ) → Item → List WireRep
names_of_item a b (items.Call call target method value) = object_of b target ∷ refs_in value
names_of_item a b (items.Reply call status value) = refs_in value
names_of_item a b (items.Settle item) = []
names_of_item a b (items.Dirty index) = object_of b index ∷ []
names_of_item a b (items.DirtyOk index) = object_of a index ∷ []
names_of_item a b (items.DirtyNo index) = object_of a index ∷ []
names_of_item a b (items.Clean index) = object_of b index ∷ []

-- what an item names, where there is one
abbrev pub names_of_some : (a b : ℕ) → Option Item → List WireRep
names_of_some a b None = []
names_of_some a b (Some item) = names_of_item a b item

-- a frame of this kind names what the item that it carries does
abbrev pub names_by_kind : FrameKind → Frame → List WireRep
names_by_kind kinds.Data frame = names_of_some frame.from frame.to (item_spelt frame.payload)
names_by_kind kinds.Ack frame = []
names_by_kind kinds.Close frame = []

-- what a frame names
abbrev pub names_of_frame : Frame → List WireRep
names_of_frame frame = names_by_kind frame.kind frame

-- what a job's method made of its call names what is in its value
abbrev pub names_of_outcome : Outcome → List WireRep
names_of_outcome (outcomes.Answer value) = refs_in value
names_of_outcome (outcomes.Fault value) = refs_in value
names_of_outcome outcomes.NoMethod = []

-- what space s is asked names references, an object of its own, what is in a value, or what the frame that arrives does
abbrev pub names_of_event : (s : ℕ) → Event → List WireRep
names_of_event s events.Export = []
names_of_event s (events.Dup rep) = rep ∷ []
names_of_event s (events.Release rep) = rep ∷ []
names_of_event s (events.Call target method value) = target ∷ refs_in value
names_of_event s (events.TakeReply call) = []
names_of_event s events.Claim = []
names_of_event s (events.Finish job outcome) = names_of_outcome outcome
names_of_event s (events.Act peer) = []
names_of_event s events.Settle = []
names_of_event s events.Clean = []
names_of_event s (events.Withdraw index) = object_of s index ∷ []
names_of_event s (events.Transmit peer) = []
names_of_event s (events.Arrive frame) = names_of_frame frame
names_of_event s (events.Tick peer) = []
names_of_event s (events.Close peer) = []
names_of_event s (events.Open peer) = []

-- and what it answers: a reference, a job's object and what is in its value, or what the frames that it gives do
abbrev pub names_of_answer : (s : ℕ) → Answer → List WireRep
names_of_answer s (answers.Exported rep) = rep ∷ []
names_of_answer s answers.Done = []
names_of_answer s (answers.Called call) = []
names_of_answer s (answers.Replied status value) = refs_in value
names_of_answer s answers.Ended = []
names_of_answer s (answers.Job job) = object_of s job.target ∷ refs_in job.value
names_of_answer s answers.Finished = []
names_of_answer s answers.Dropped = []
names_of_answer s (answers.Acted item) = []
names_of_answer s (answers.Closed reason) = []
names_of_answer s (answers.Settled peer item) = []
names_of_answer s (answers.Cleaned rep) = rep ∷ []
names_of_answer s answers.Withdrawn = []
names_of_answer s (answers.Frames frames) = flat_map names_of_frame frames
names_of_answer s (answers.Took count) = []
names_of_answer s (answers.Opened number) = []

-- a refusal names nothing
abbrev pub names_of_result : (s : ℕ) → Result Answer Refusal → List WireRep
names_of_result s (Ok answer) = names_of_answer s answer
names_of_result s (Err refusal) = []

-- what an entry names
abbrev pub names_in : Entry → List WireRep
names_in entry = names_of_event entry.space entry.event ++ names_of_result entry.space entry.result
