-- A space as its callers see it, and for which lists of entries it stands. The newest stands FIRST.
use Rattle.std.specs.Prelude.{◌≡◌, ◌≤◌, ℕ, Bool, true, false, List, ◌∷◌, Result, Ok, Err}
use Rattle.nob_ids.specs.declared.limits.Limits.{Limits}
use Rattle.nob_frame.specs.Kinds.{is_data}
use Rattle.nob_model_types.specs.declared.answer.Answer.{Answer}
use Rattle.nob_model_types.specs.declared.entry.Entry.{Entry}
use Rattle.nob_model_types.specs.declared.event.Event.{Event}
use Rattle.nob_model_types.specs.declared.event.Event.TheVariants as events
use Rattle.nob_model_types.specs.declared.refusal.Refusal.{Refusal}
use Rattle.nob_model_types.specs.Deeds.{deeds}
use Rattle.nob_space_state.specs.declared.error.SpaceError.{SpaceError}
use Rattle.nob_space_state.specs.declared.error.SpaceError.TheVariants as errors
use Rattle.nob_space_state.specs.declared.parts.Parts.{Parts}
use Rattle.nob_space_state.specs.Parts.{State}
use Rattle.nob_space_state.specs.Stands.{Stands, StandFor}

-- a space: its number, how many spaces there are, the limits of its sessions, and its state
pub record Owner : Type 0 where
  pub id : ℕ
  pub n : ℕ
  pub limits : Limits
  pub state : State

-- a space stands for a list of entries: its state stands for what they did
abbrev pub StandsFor : Owner → List Entry → Type 0
StandsFor space L = Stands space.id space.n space.limits space.state (deeds L)

-- there are no more spaces than there may be, and there is a list of entries that the parts stand for
abbrev pub IsOwner : Limits → Parts → Type 0
IsOwner limits parts = (parts.here.n ≤ 32) × (L : List Entry) × StandFor limits parts (deeds L)

-- the entry of an event with its result
abbrev pub entry_of : ℕ → Event → Result Answer Refusal → Entry
entry_of s event result = record { space = s; event = event; result = result }

-- a list with the entry that an event makes by its result: a want of memory makes none
abbrev pub with_entry : ℕ → Event → Result Answer SpaceError → List Entry → List Entry
with_entry s event (Ok answer) L = entry_of s event (Ok answer) ∷ L
with_entry s event (Err (errors.Refused refusal)) L = entry_of s event (Err refusal) ∷ L
with_entry s event (Err errors.OutOfMemory) L = L

-- whether an event may want memory
abbrev pub wants_memory : Event → Bool
wants_memory (events.Dup rep) = false
wants_memory (events.Release rep) = false
wants_memory (events.TakeReply call) = false
wants_memory (events.Withdraw index) = false
wants_memory (events.Tick peer) = false
wants_memory (events.Close peer) = false
wants_memory (events.Open peer) = false
wants_memory (events.Arrive frame) = is_data frame.kind
wants_memory (_) = true

-- new is the same space with the same limits, in whatever state
pub record SameSpace (old new : Owner) : Type 0 where
  pub id : new.id ≡ old.id
  pub n : new.n ≡ old.n
  pub limits : new.limits ≡ old.limits
