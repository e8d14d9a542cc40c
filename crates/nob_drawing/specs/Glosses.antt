-- What stands beside the text of an entry: names in place of numbers, and bytes as text.
use Rattle.std.specs.Prelude.{ℕ, Bool, true, false, ◌&&◌, not, ◌==◌, nat_le, List, [], ◌∷◌, ◌++◌, flat_map, codes, Option, Some, None, Result, Ok, Err, if◌then◌else◌}
use Rattle.std.specs.List.{list_all}
use Rattle.std.specs.Fmt.{decimal}
use Rattle.nob_ids.specs.declared.reason.Reason.{Reason}
use Rattle.nob_ids.specs.declared.reason.Reason.TheVariants as reasons
use Rattle.nob_pickle.specs.Trees.{Tree, unit, int, bytes, list, ref, Trees, none, more}
use Rattle.nob_pickle.specs.Shape.{tree}
use Rattle.nob_pickle.specs.declared.value.Value.{Value}
use Rattle.nob_frame.specs.declared.frame.Frame.{Frame}
use Rattle.nob_frame.specs.declared.frame.FrameKind.{FrameKind}
use Rattle.nob_frame.specs.declared.frame.FrameKind.TheVariants as kinds
use Rattle.nob_item.specs.declared.item.Item.{Item}
use Rattle.nob_item.specs.declared.item.Item.TheVariants as items
use Rattle.nob_model_types.specs.declared.event.Outcome.{Outcome}
use Rattle.nob_model_types.specs.declared.event.Outcome.TheVariants as outcomes
use Rattle.nob_model_types.specs.declared.event.Event.{Event}
use Rattle.nob_model_types.specs.declared.event.Event.TheVariants as events
use Rattle.nob_model_types.specs.declared.answer.Answer.{Answer}
use Rattle.nob_model_types.specs.declared.answer.Answer.TheVariants as answers
use Rattle.nob_model_types.specs.declared.refusal.Use.{Use}
use Rattle.nob_model_types.specs.declared.refusal.Use.TheVariants as uses
use Rattle.nob_model_types.specs.declared.refusal.Refusal.{Refusal}
use Rattle.nob_model_types.specs.declared.refusal.Refusal.TheVariants as refusals
use Rattle.nob_model_types.specs.declared.entry.Entry.{Entry}
use Rattle.nob_model_types.specs.Sessions.{item_spelt}

-- whether a byte is a sign of ASCII or a space
abbrev pub is_sign : ℕ → Bool
is_sign byte = nat_le 32 byte && nat_le byte 126

-- whether there are no bytes
abbrev pub is_empty : List ℕ → Bool
is_empty [] = true
is_empty (byte ∷ text) = false

-- whether bytes are a text that can be printed: there are some, and each is a sign
abbrev pub is_printable : List ℕ → Bool
is_printable text = not (is_empty text) && list_all is_sign text

-- a text in quotes
abbrev pub quoted : List ℕ → List ℕ
quoted text = 34 ∷ (text ++ 34 ∷ [])

-- bytes as text, behind a space, if they are one
abbrev pub bytes_gloss : List ℕ → List ℕ
bytes_gloss text = if is_printable text then 32 ∷ quoted text else []

-- the same of an element of a list
abbrev pub element_gloss : Tree → List ℕ
element_gloss unit = []
element_gloss (int n) = []
element_gloss (bytes bs) = bytes_gloss bs
element_gloss (list ts) = []
element_gloss (ref r) = []

-- the bytes among the elements of a list, as text
abbrev pub elements_gloss : Trees → List ℕ
elements_gloss none = []
elements_gloss (more t ts) = element_gloss t ++ elements_gloss ts

-- the bytes that a tree is, or those among its elements
abbrev pub tree_gloss : Tree → List ℕ
tree_gloss unit = []
tree_gloss (int n) = []
tree_gloss (bytes bs) = bytes_gloss bs
tree_gloss (list ts) = elements_gloss ts
tree_gloss (ref r) = []

-- a value
abbrev pub value_gloss : Value → List ℕ
value_gloss value = tree_gloss (tree value)

-- a method of the agent by its name, and one that it hasn't by its number
abbrev pub agent_method : ℕ → List ℕ
agent_method method = if method == 0 then codes "put" else if method == 1 then codes "get" else if method == 2 then codes "remove" else decimal method

-- which method of the agent is called: the object of index 0 is the agent
abbrev pub agent_gloss : (index method : ℕ) → List ℕ
agent_gloss index method = if index == 0 then codes " agent " ++ agent_method method else []

-- a call of an object
abbrev pub call_gloss : (index method : ℕ) → Value → List ℕ
call_gloss index method value = agent_gloss index method ++ value_gloss value

-- an item
abbrev pub item_gloss : Option Item → List ℕ
item_gloss None = []
item_gloss (Some (items.Call call target method value)) = call_gloss target method value
item_gloss (Some (items.Reply call status value)) = value_gloss value
item_gloss (Some _) = []

-- a frame of this kind
abbrev pub gloss_of : FrameKind → Frame → List ℕ
gloss_of kinds.Data frame = item_gloss (item_spelt frame.payload)
gloss_of kinds.Ack frame = []
gloss_of kinds.Close frame = []

-- a frame
abbrev pub frame_gloss : Frame → List ℕ
frame_gloss frame = gloss_of frame.kind frame

-- what a job's method made of its call
abbrev pub outcome_gloss : Outcome → List ℕ
outcome_gloss (outcomes.Answer value) = value_gloss value
outcome_gloss (outcomes.Fault value) = value_gloss value
outcome_gloss outcomes.NoMethod = []

-- what a space is asked
abbrev pub event_gloss : Event → List ℕ
event_gloss (events.Call target method value) = call_gloss target.index method value
event_gloss (events.Finish job outcome) = outcome_gloss outcome
event_gloss (events.Arrive frame) = frame_gloss frame
event_gloss _ = []

-- why a session closes
abbrev pub reason_gloss : Reason → List ℕ
reason_gloss reasons.Asked = codes " it was asked to"
reason_gloss reasons.PeerClosed = codes " the peer closed"
reason_gloss reasons.RetriesUsedUp = codes " the retries are used up"
reason_gloss reasons.BadItem = codes " a bad item"
reason_gloss reasons.BadReference = codes " a bad reference"
reason_gloss reasons.OutOfPlace = codes " an item out of place"

-- what it answers
abbrev pub answer_gloss : Answer → List ℕ
answer_gloss (answers.Replied status value) = value_gloss value
answer_gloss (answers.Job job) = call_gloss job.target job.method job.value
answer_gloss (answers.Closed reason) = reason_gloss reason
answer_gloss (answers.Frames frames) = flat_map frame_gloss frames
answer_gloss _ = []

-- what still uses an object
abbrev pub use_gloss : Use → List ℕ
use_gloss uses.Held = codes " its owner holds it"
use_gloss uses.InTransit = codes " a reference is in transit"
use_gloss uses.Listed = codes " a client is listed"
use_gloss uses.Agent = codes " it is the agent"

-- a refusal by its name
abbrev pub refusal_gloss : Refusal → List ℕ
refusal_gloss refusals.NoPeer = codes " no such peer"
refusal_gloss refusals.Closed = codes " the session is closed"
refusal_gloss refusals.NoObject = codes " the object isn't live"
refusal_gloss refusals.NotHeld = codes " the reference isn't held"
refusal_gloss refusals.QueueFull = codes " too many are unacknowledged"
refusal_gloss refusals.SeqEnd = codes " the numbers are used up"
refusal_gloss refusals.TooBig = codes " the value has no pickle"
refusal_gloss refusals.NoCall = codes " no such call"
refusal_gloss refusals.NotReady = codes " the reply isn't ready"
refusal_gloss refusals.Nothing = codes " nothing to do"
refusal_gloss (refusals.StillUsed use_left) = use_gloss use_left
refusal_gloss refusals.NoJob = codes " the job isn't running"
refusal_gloss refusals.Limit = codes " a limit is reached"
refusal_gloss refusals.StillOpen = codes " the session is open"
refusal_gloss refusals.StillHeld = codes " a reference of the peer is held"

-- a result
abbrev pub result_gloss : Result Answer Refusal → List ℕ
result_gloss (Ok answer) = answer_gloss answer
result_gloss (Err refusal) = refusal_gloss refusal

-- an entry
abbrev pub entry_gloss : Entry → List ℕ
entry_gloss entry = event_gloss entry.event ++ result_gloss entry.result
