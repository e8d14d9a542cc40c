-- What a space did: the entries of its list whose answer is one of their event's own. All words are read off these,
-- so a refused entry, and one with an answer of another event, changes no word. The newest stands FIRST.
use Rattle.std.specs.Prelude.{List, [], ◌∷◌, Option, Some, None, Result, Ok, Err, filter_map}
use Rattle.nob_model_types.specs.declared.event.Event.{Event}
use Rattle.nob_model_types.specs.declared.event.Event.TheVariants as events
use Rattle.nob_model_types.specs.declared.answer.Answer.{Answer}
use Rattle.nob_model_types.specs.declared.answer.Answer.TheVariants as answers
use Rattle.nob_model_types.specs.declared.refusal.Refusal.{Refusal}
use Rattle.nob_model_types.specs.declared.entry.Entry.{Entry}
use Rattle.nob_model_types.specs.declared.deed.Deed.{Deed}
use Rattle.nob_model_types.specs.declared.deed.Deed.TheVariants as did
use Rattle.nob_model_types.specs.declared.deed.Cause.TheVariants as causes

-- what an event with an answer of its own did
abbrev pub deed_of : Event → Answer → Option Deed
deed_of events.Export (answers.Exported rep) = Some (did.Export rep)
deed_of (events.Dup rep) answers.Done = Some (did.Dup rep)
deed_of (events.Release rep) answers.Done = Some (did.Release rep)
deed_of (events.Call target method value) (answers.Called call) = Some (did.Call target method value call)
deed_of (events.TakeReply call) (answers.Replied status value) = Some (did.TakeReply call status value)
deed_of (events.TakeReply call) answers.Ended = Some (did.TakeEnd call)
deed_of events.Claim (answers.Job job) = Some (did.Claim job)
deed_of (events.Finish job outcome) answers.Finished = Some (did.Finish job outcome)
deed_of (events.Finish job outcome) answers.Dropped = Some (did.DropReply job)
deed_of (events.Act peer) (answers.Acted item) = Some (did.Act peer item)
deed_of (events.Act peer) (answers.Closed reason) = Some (did.Closing peer reason causes.Item)
deed_of events.Settle (answers.Settled peer item) = Some (did.Settle peer item)
deed_of events.Clean (answers.Cleaned rep) = Some (did.Clean rep)
deed_of (events.Withdraw index) answers.Withdrawn = Some (did.Withdraw index)
deed_of (events.Transmit peer) (answers.Frames frames) = Some (did.Transmit peer frames)
deed_of (events.Arrive frame) (answers.Took count) = Some (did.Arrive frame count)
deed_of (events.Arrive frame) (answers.Closed reason) = Some (did.Closing frame.from reason (causes.Frame frame))
deed_of (events.Tick peer) answers.Done = Some (did.Tick peer)
deed_of (events.Tick peer) (answers.Closed reason) = Some (did.Closing peer reason causes.Ticks)
deed_of (events.Close peer) (answers.Closed reason) = Some (did.Closing peer reason causes.Asked)
deed_of (events.Open peer) (answers.Opened number) = Some (did.Open peer number)
deed_of _ _ = None

-- what an event with this result did: a refused one did nothing
abbrev pub deed_by : Event → Result Answer Refusal → Option Deed
deed_by event (Ok answer) = deed_of event answer
deed_by event (Err refusal) = None

-- what an entry did
abbrev pub deed_in : Entry → Option Deed
deed_in entry = deed_by entry.event entry.result

-- what the entries of a list did
abbrev pub deeds : List Entry → List Deed
deeds L = filter_map deed_in L
