-- What a node's calls say. In lists of receipts the newest stands FIRST.
use Rattle.std.specs.Prelude.{◌≡◌, ◌⊎◌, ℕ, List, [], ◌∷◌, Result, Ok, Err}
use Rattle.nob_ids.specs.declared.wire_rep.WireRep.{WireRep}
use Rattle.nob_pickle.specs.declared.value.Value.{Value}
use Rattle.nob_pickle.specs.declared.value.Value.TheVariants as values
use Rattle.nob_model_types.specs.declared.event.Event.{Event}
use Rattle.nob_model_types.specs.declared.event.Event.TheVariants as events
use Rattle.nob_model_types.specs.declared.answer.Answer.{Answer}
use Rattle.nob_model_types.specs.declared.answer.Answer.TheVariants as answers
use Rattle.nob_model_types.specs.declared.refusal.Refusal.{Refusal}
use Rattle.nob_ids.specs.declared.reason.Reason.{Reason}
use Rattle.nob_keeper.specs.KeeperError.TheVariants as keepers
use Rattle.nob_keeper.specs.Receipt.{Receipt}
use Rattle.nob_node.specs.declared.error.NodeError.{NodeError}
use Rattle.nob_node.specs.declared.error.NodeError.TheVariants as errors
use Rattle.nob_node.specs.declared.hold.Returned.{Returned}
use Rattle.nob_node.specs.declared.hold.Returned.TheVariants as returns
use Rattle.nob_node.specs.Holds.{held_by, counted_in}

-- one receipt was added: the event was answered so
abbrev pub Answered : List Receipt → List Receipt → Event → Result Answer Refusal → Type 0
Answered old new event result = (receipt : Receipt) × (new ≡ receipt ∷ old) × (receipt.event ≡ event) × (receipt.result ≡ result)

-- where an event is refused: by the space, a receipt of that refusal was added; by the keeper, or for want of memory, none was
abbrev pub IsRefusal : List Receipt → List Receipt → Event → NodeError → Type 0
IsRefusal old new event (errors.Refused refusal) = Answered old new event (Err refusal)
IsRefusal old new event (errors.Keeper error) = new ≡ old

-- what a node says where memory is wanted
abbrev pub want : NodeError
want = errors.Keeper keepers.OutOfMemory

-- where memory is wanted no receipt was added
abbrev pub KeepsOnWant : List Receipt → List Receipt → NodeError → Type 0
KeepsOnWant old new error = error ≡ want → new ≡ old

-- a hold more was taken on a reference, and given back
abbrev pub IsTakenBack : List Receipt → List Receipt → WireRep → Type 0
IsTakenBack old new rep = (between : List Receipt) × Answered old between (events.Dup rep) (Ok answers.Done) × Answered between new (events.Release rep) (Ok answers.Done)

-- one hold on some reference was given back, or none
abbrev pub GivesBackAtMost : List Receipt → List Receipt → Type 0
GivesBackAtMost old new = (new ≡ old) ⊎ ((before : WireRep) × Answered old new (events.Release before) (Ok answers.Done))

-- a hold more was taken on a reference, for a name, and the one that the name had before was given back, if it had one
abbrev pub IsBound : List Receipt → List Receipt → WireRep → Type 0
IsBound old new rep = (between : List Receipt) × Answered old between (events.Dup rep) (Ok answers.Done) × GivesBackAtMost between new

-- the hold that a name had was given back, if it had one
abbrev pub IsUnbound : List Receipt → List Receipt → Type 0
IsUnbound old new = GivesBackAtMost old new

-- the session with a peer was closed
abbrev pub IsClosed : List Receipt → List Receipt → (peer : ℕ) → Type 0
IsClosed old new peer = (reason : Reason) × Answered old new (events.Close peer) (Ok (answers.Closed reason))

-- where memory is wanted no receipt was added, or those by which a hold more was taken on a reference and given back
abbrev pub KeepsHoldsOnWant : List Receipt → List Receipt → WireRep → NodeError → Type 0
KeepsHoldsOnWant old new rep error = error ≡ want → (new ≡ old) ⊎ IsTakenBack old new rep

-- an answer is handed on: the reply's status and value, with a hold on each counted reference in it, in reading order; or that none comes
abbrev pub IsHandedOn : Result Answer Refusal → Returned → Type 0
IsHandedOn (Ok (answers.Replied status value)) (returns.Replied said given holds) = (said ≡ status) × (given ≡ value) × (held_by holds.items ≡ counted_in value)
IsHandedOn (Ok answers.Ended) returns.Ended = Unit {0}
IsHandedOn _ _ = ⊥

-- one receipt was added, of this event
abbrev pub IsAsked : List Receipt → List Receipt → Event → Type 0
IsAsked old new event = (receipt : Receipt) × (new ≡ receipt ∷ old) × (receipt.event ≡ event)

-- such a receipt was added, or none
abbrev pub IsAskedAtMost : List Receipt → List Receipt → Event → Type 0
IsAskedAtMost old new event = (new ≡ old) ⊎ IsAsked old new event

-- a reference is given up: its hold is given back and its object withdrawn, as far as the keeper lets that be
abbrev pub IsGivenUp : List Receipt → List Receipt → WireRep → Type 0
IsGivenUp old new rep = (between : List Receipt) × IsAskedAtMost old between (events.Release rep) × IsAskedAtMost between new (events.Withdraw rep.index)

-- an object was exported, and its reference given up again
abbrev pub IsTakenOut : List Receipt → List Receipt → Type 0
IsTakenOut old new = (rep : WireRep) × (made : List Receipt) × Answered old made events.Export (Ok (answers.Exported rep)) × IsGivenUp made new rep

-- where an export is refused: the event is, or there is no memory for the object, and it was taken out again
abbrev pub IsExportRefusal : List Receipt → List Receipt → NodeError → Type 0
IsExportRefusal old new error = IsRefusal old new events.Export error ⊎ ((error ≡ want) × IsTakenOut old new)

-- of the newest receipt the answer is handed on, or the refusal
abbrev pub HandsOn : List Receipt → Result Returned NodeError → Type 0
HandsOn [] told = ⊥
HandsOn (receipt ∷ earlier) (Ok returned) = IsHandedOn receipt.result returned
HandsOn (receipt ∷ earlier) (Err (errors.Refused refusal)) = receipt.result ≡ Err refusal
HandsOn (receipt ∷ earlier) (Err (errors.Keeper error)) = ⊥

-- the reply to a call was taken and is handed on
abbrev pub TakesReply : List Receipt → List Receipt → ℕ → Returned → Type 0
TakesReply old new call returned = (taken : Receipt) × (new ≡ taken ∷ old) × (taken.event ≡ events.TakeReply call) × IsHandedOn taken.result returned

-- the call of an event was made, and its reply was taken and is handed on
abbrev pub IsCallBy : List Receipt → List Receipt → Event → Returned → Type 0
IsCallBy old new event returned =
    (call : ℕ) × (asked : Receipt) × (taken : Receipt)
    × (new ≡ taken ∷ asked ∷ old)
    × (asked.event ≡ event)
    × (asked.result ≡ Ok (answers.Called call))
    × (taken.event ≡ events.TakeReply call)
    × IsHandedOn taken.result returned

-- the call of an event was made, and taking its reply was refused
abbrev pub IsReplyRefused : List Receipt → List Receipt → Event → Refusal → Type 0
IsReplyRefused old new event refusal =
    (call : ℕ) × (asked : Receipt) × (taken : Receipt)
    × (new ≡ taken ∷ asked ∷ old)
    × (asked.event ≡ event)
    × (asked.result ≡ Ok (answers.Called call))
    × (taken.event ≡ events.TakeReply call)
    × (taken.result ≡ Err refusal)

-- the call of an event was made, and no reply to it was taken
abbrev pub IsCalledAlone : List Receipt → List Receipt → Event → Type 0
IsCalledAlone old new event = (call : ℕ) × Answered old new event (Ok (answers.Called call))

-- where a call is refused: by the space, a receipt of that refusal was added, of the call's event, or, behind that of the call that was made, of taking its reply;
-- by the keeper, or for want of memory, none was, or that of the call alone
abbrev pub IsRefusalBy : List Receipt → List Receipt → Event → NodeError → Type 0
IsRefusalBy old new event (errors.Refused refusal) = Answered old new event (Err refusal) ⊎ IsReplyRefused old new event refusal
IsRefusalBy old new event (errors.Keeper error) = (new ≡ old) ⊎ IsCalledAlone old new event

-- a call was made of this method of this object with this value, and its reply was taken and is handed on
abbrev pub IsCall : List Receipt → List Receipt → WireRep → (method : ℕ) → Value → Returned → Type 0
IsCall old new target method value returned = IsCallBy old new (events.Call target method value) returned

-- such a call was refused so
abbrev pub IsCallRefusal : List Receipt → List Receipt → WireRep → (method : ℕ) → Value → NodeError → Type 0
IsCallRefusal old new target method value error = IsRefusalBy old new (events.Call target method value) error

-- the value of a call
abbrev pub value_of : Event → Value
value_of (events.Call target method value) = value
value_of event = values.Unit

-- the agent of a space
abbrev pub agent_of : ℕ → WireRep
agent_of space = record { owner = space; index = 0 }
