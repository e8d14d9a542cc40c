-- What each deed gave to the peers.
use Rattle.std.specs.Prelude.{ℕ, Bool, not, List, [], ◌∷◌, Option, Some, None, map, filter, find, if◌then◌else◌}
use Rattle.nob_ids.specs.Names.{is_same}
use Rattle.nob_ids.specs.declared.wire_rep.WireRep.{WireRep}
use Rattle.nob_model_types.specs.Kinds.{counted_in}
use Rattle.nob_model_types.specs.Item.{Item}
use Rattle.nob_model_types.specs.Item.TheVariants as items
use Rattle.nob_model_types.specs.Value.{Value}
use Rattle.nob_model_types.specs.Value.TheVariants as values
use Rattle.nob_model_types.specs.declared.event.Outcome.{Outcome}
use Rattle.nob_model_types.specs.declared.event.Outcome.TheVariants as outcomes
use Rattle.nob_model_types.specs.declared.deed.Deed.{Deed}
use Rattle.nob_model_types.specs.declared.deed.Deed.TheVariants.{Call, Finish, Act, Settle, Clean}
use Rattle.nob_model_types.specs.Sessions.{is_peer, item_at}
use Rattle.nob_model_types.specs.Objects.{is_exported, is_live}
use Rattle.nob_model_types.specs.Turns.{wants_dirty, turns}
use Rattle.nob_model_types.specs.declared.message.Message.{Message}
use Rattle.nob_model_work.specs.declared.work.Run.{Run}
use Rattle.nob_model_work.specs.declared.work.Outstanding.{Outstanding}
use Rattle.nob_model_work.specs.declared.gifts.Gift.{Gift}
use Rattle.nob_model_types.specs.Messages.{is_of, is_lost_message}
use Rattle.nob_model_work.specs.Work.{is_run, work}

-- each reference once, where it stands first
abbrev pub once : List WireRep → List WireRep
once [] = []
once (rep ∷ reps) = rep ∷ filter (λ other. not (is_same rep other)) (once reps)

-- a Dirty for a reference goes to its owner
unfoldable pub dirty_for : WireRep → Gift
dirty_for rep = record { to = rep.owner; item = items.Dirty rep.index }

-- the Dirties for references, in reading order, each reference once and only where it gets one
unfoldable pub dirties_for : (s n : ℕ) → List Deed → List WireRep → List Gift
dirties_for s n D reps = map dirty_for (filter (λ rep. wants_dirty s n rep D (turns s n rep D)) (once reps))

-- the answer to a Dirty: DirtyOk for a live object, DirtyNo for one that was exported and isn't live any more
unfoldable pub answer_to : (s p index : ℕ) → List Deed → List Gift
answer_to s p index D = if is_live s index D then record { to = p; item = items.DirtyOk index } ∷ [] else if is_exported s index D then record { to = p; item = items.DirtyNo index } ∷ [] else []

-- what acting on an item from p gives
unfoldable pub gifts_of_act : (s n p : ℕ) → List Deed → Option Item → List Gift
gifts_of_act s n p D None = []
gifts_of_act s n p D (Some (items.Call call target method value)) = dirties_for s n D (counted_in (items.Call call target method value))
gifts_of_act s n p D (Some (items.Reply call status value)) = dirties_for s n D (counted_in (items.Reply call status value))
gifts_of_act s n p D (Some (items.Settle item)) = []
gifts_of_act s n p D (Some (items.Dirty index)) = answer_to s p index D
gifts_of_act s n p D (Some (items.DirtyOk index)) = []
gifts_of_act s n p D (Some (items.DirtyNo index)) = []
gifts_of_act s n p D (Some (items.Clean index)) = []

-- the Reply of status 3 with unit to a lost Call
unfoldable pub lost_call_reply : ℕ → Item → Bool → List Gift
lost_call_reply p (items.Call call target method value) lost = if lost then record { to = p; item = items.Reply call 3 values.Unit } ∷ [] else []
lost_call_reply p (items.Reply call status value) lost = []
lost_call_reply p (items.Settle item) lost = []
lost_call_reply p (items.Dirty index) lost = []
lost_call_reply p (items.DirtyOk index) lost = []
lost_call_reply p (items.DirtyNo index) lost = []
lost_call_reply p (items.Clean index) lost = []

-- what settling a message that waits gives: the Settle, and then the Reply to a lost Call
unfoldable pub gifts_of_settle : (s n p k : ℕ) → List Deed → Option Message → List Gift
gifts_of_settle s n p k D None = []
gifts_of_settle s n p k D (Some message) = record { to = p; item = items.Settle k } ∷ lost_call_reply p message.item (is_lost_message s n D message)

-- the status of an outcome: 0 answered, 1 the method's fault, 2 no such method
abbrev pub status_of : Outcome → ℕ
status_of (outcomes.Answer value) = 0
status_of (outcomes.Fault value) = 1
status_of outcomes.NoMethod = 2

-- the value of an outcome: unit where there is no such method
abbrev pub value_of : Outcome → Value
value_of (outcomes.Answer value) = value
value_of (outcomes.Fault value) = value
value_of outcomes.NoMethod = values.Unit

-- the Reply to a Call
unfoldable pub reply_to : ℕ → Item → Outcome → List Gift
reply_to p (items.Call call target method value) outcome = record { to = p; item = items.Reply call (status_of outcome) (value_of outcome) } ∷ []
reply_to p (items.Reply call status value) outcome = []
reply_to p (items.Settle item) outcome = []
reply_to p (items.Dirty index) outcome = []
reply_to p (items.DirtyOk index) outcome = []
reply_to p (items.DirtyNo index) outcome = []
reply_to p (items.Clean index) outcome = []

-- what ending a job that runs gives: the Reply to its client
unfoldable pub gifts_of_finish : Outcome → Option Run → List Gift
gifts_of_finish outcome None = []
gifts_of_finish outcome (Some run) = reply_to run.message.from run.message.item outcome

-- what a deed of space s among n gives, in order, by what was done and was outstanding before, whoever it goes to
unfoldable pub gifts_of : (s n : ℕ) → Deed → List Deed → Outstanding → List Gift
gifts_of s n (Call target method value call) D W = record { to = target.owner; item = items.Call call target.index method value } ∷ []
gifts_of s n (Finish job outcome) D W = gifts_of_finish outcome (find (is_run job) W.running)
gifts_of s n (Act p k) D W = gifts_of_act s n p D (item_at p k D)
gifts_of s n (Settle p k) D W = gifts_of_settle s n p k D (find (is_of p k) W.waiting)
gifts_of s n (Clean rep) D W = if (turns s n rep D).asks then record { to = rep.owner; item = items.Clean rep.index } ∷ [] else []
gifts_of s n (_) D W = []

-- what a deed gives to the peers of space s among n, in order: one list over all peers, and nothing for anybody else
unfoldable pub gifts : (s n : ℕ) → Deed → List Deed → Outstanding → List Gift
gifts s n deed D W = filter (λ gift. is_peer s n gift.to) (gifts_of s n deed D W)

-- what each deed gave, the newest first
abbrev pub all_gifts : (s n : ℕ) → List Deed → List (List Gift)
all_gifts s n [] = []
all_gifts s n (deed ∷ D) = gifts s n deed D (work s n D) ∷ all_gifts s n D
