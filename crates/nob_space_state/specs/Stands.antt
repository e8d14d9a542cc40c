-- For which lists of what a space did its state stands: one equation for each part, by the words that are read off
-- the whole list. The newest stands FIRST.
use Rattle.std.specs.Prelude.{◌≡◌, ◌==◌, ℕ, ◌+◌, true, not, if◌then◌else◌, List, [], ◌∷◌, length, slice_get, map, Some, Result, Ok, Err, IsOk}
use Rattle.std.specs.List.{sum_by}
use Rattle.nob_ids.specs.declared.limits.Limits.{Limits}
use Rattle.nob_ids.specs.declared.wire_rep.WireRep.{WireRep}
use Rattle.nob_item.specs.Kinds.{counted_in}
use Rattle.nob_session.specs.Stands as session
use Rattle.nob_session.specs.Stands.{Roomy}
use Rattle.nob_session.specs.Calls.{beginning}
use Rattle.nob_session.specs.Onward.{StandsOnward}
use Rattle.nob_dirty.specs.Sets.{lists}
use Rattle.nob_pins.specs.Bundles.{Pinned, bundle_of}
use Rattle.nob_model_types.specs.declared.answer.Answer.{Answer}
use Rattle.nob_model_types.specs.declared.refusal.Refusal.{Refusal}
use Rattle.nob_model_types.specs.declared.deed.Deed.{Deed}
use Rattle.nob_model_types.specs.declared.message.Message.{Message}
use Rattle.nob_model_types.specs.Turns.{is_lost}
use Rattle.nob_model_work.specs.Work.{work}
use Rattle.nob_model_history.specs.declared.history.History.{History}
use Rattle.nob_model_history.specs.declared.transit.SentItem.{SentItem}
use Rattle.nob_model_history.specs.Histories.{history_of}
use Rattle.nob_model_history.specs.Ends.{calls_at}
use Rattle.nob_model_history.specs.Transit as transit
use Rattle.nob_model_history.specs.Listing.{is_listed}
use Rattle.nob_model.specs.Right.{calls_made, jobs_made}
use Rattle.nob_model.specs.Lists.{AreRightDeeds}
use Rattle.nob_space_messages.specs.Waiting.{is_awaited, is_due_in}
use Rattle.nob_space_state.specs.Shows.{TableStands}
use Rattle.nob_space_state.specs.declared.error.SpaceError.{SpaceError}
use Rattle.nob_space_state.specs.declared.error.SpaceError.TheVariants as errors
use Rattle.nob_space_state.specs.declared.parts.Parts.{Parts}
use Rattle.nob_space_state.specs.Parts.{State, state_of}

-- the ends stand, from their sessions onward, for the calls on them: at place p - 1 the one with space p
pub record EndsStand (s n : ℕ) (limits : Limits) (sessions : List Roomy) (h : History) : Type 0 where
  pub each : length sessions ≡ n
  pub ends : (place : ℕ) (end : Roomy) → slice_get sessions place ≡ Some end → StandsOnward s (place + 1) limits end.end (calls_at (place + 1) h)

-- what was sent, as the bundle of its pins
abbrev pub bundle : SentItem → Pinned
bundle item = bundle_of item.to item.number (counted_in item.item)

-- the bundles are those of a history, in whatever order: every sum over them is the same
abbrev pub PinsStand : List Pinned → History → Type 0
PinsStand bundles h = (f : Pinned → ℕ) → sum_by f bundles ≡ sum_by f (map bundle (transit.bundles h))

-- of the references that are due to messages that wait, those are awaited that aren't lost
abbrev pub AreAwaited : (s n : ℕ) → List WireRep → List Message → List Deed → Type 0
AreAwaited s n awaited waiting D = (rep : WireRep) → is_due_in waiting rep ≡ true → is_awaited awaited rep ≡ not (is_lost s n rep D)

-- a state of space s among n, with these limits, stands for a list of what the space did: each deed was right after those before
pub record Stands (s n : ℕ) (limits : Limits) (state : State) (D : List Deed) : Type 0 where
  pub ends : EndsStand s n limits state.sessions (history_of s n D)
  pub table : TableStands s n state.table (history_of s n D)
  pub listed : (index client : ℕ) → lists state.dirty index client ≡ is_listed s index client D
  pub pins : PinsStand state.pins.bundles (history_of s n D)
  pub work : state.work ≡ work s n D
  pub awaited : AreAwaited s n state.awaited state.work.waiting D
  pub calls : state.calls ≡ calls_made D
  pub jobs : state.jobs ≡ jobs_made D
  pub right : AreRightDeeds s n limits D

-- parts stand for a list of what their space did
abbrev pub StandFor : Limits → Parts → List Deed → Type 0
StandFor limits parts D = Stands parts.here.space parts.here.n limits (state_of parts) D

-- what a list of deeds comes to for the space of the parts
abbrev pub history_for : Parts → List Deed → History
history_for parts D = history_of parts.here.space parts.here.n D

-- the parts are a state of their space: there is a list that they stand for
abbrev pub IsState : Parts → Type 0
IsState parts = (limits : Limits) × (D : List Deed) × StandFor limits parts D

-- new stands for every list that old stands for
abbrev pub Keeps : (old new : Parts) → Type 0
Keeps old new = (limits : Limits) (D : List Deed) → StandFor limits old D → StandFor limits new D

-- new stands for every list that old stands for, with a deed more
abbrev pub Did : (old new : Parts) → Deed → Type 0
Did old new deed = (limits : Limits) (D : List Deed) → StandFor limits old D → StandFor limits new (deed ∷ D)

-- a result is the right one: what was answered, or the refusal
abbrev pub Answers : {A : Type 0} → (A → Answer) → Result A Refusal → Result Answer Refusal → Type 0
Answers answer (Ok x) right = right ≡ Ok (answer x)
Answers answer (Err refusal) right = right ≡ Err refusal

-- a result is the right one, unless memory was wanted: then nothing else refuses the event
abbrev pub AnswersOrWants : {A : Type 0} → (A → Answer) → Result A SpaceError → Result Answer Refusal → Type 0
AnswersOrWants answer (Ok x) right = right ≡ Ok (answer x)
AnswersOrWants answer (Err (errors.Refused refusal)) right = right ≡ Err refusal
AnswersOrWants answer (Err errors.OutOfMemory) right = IsOk right

-- the number of the session in which the end with p begins: that of a birth, and 1 at the space's own place
abbrev pub first_session : (s : ℕ) → (ℕ → ℕ) → (p : ℕ) → ℕ
first_session s numbers p = if p == s then 1 else numbers p

-- ends of space s with the spaces from p on, one after the other: each is new, in the session in which it begins
abbrev pub AreBegun : (s : ℕ) → (ℕ → ℕ) → (p : ℕ) → Limits → List Roomy → Type 0
AreBegun s numbers p limits [] = Unit {0}
AreBegun s numbers p limits (end ∷ ends) = (end.end ≡ beginning (first_session s numbers p) (session.end_of s p limits [])) × AreBegun s numbers (p + 1) limits ends
