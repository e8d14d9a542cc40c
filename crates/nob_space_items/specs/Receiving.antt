-- What acting on a Call or a Reply makes of the state, once there is room for all.
use Rattle.std.specs.Prelude.{◌≡◌, ℕ, ◌-◌, ◌<◌, ◌≤◌, ◌||◌, List, [], ◌∷◌, length, Some, slice_get, slice_set}
use Rattle.nob_ids.specs.declared.limits.Limits.{Limits}
use Rattle.nob_ids.specs.declared.wire_rep.WireRep.{WireRep}
use Rattle.nob_model_session.specs.declared.entry.EndEntry.{EndEntry}
use Rattle.nob_model_session.specs.declared.entry.EndEntry.TheVariants.{Take}
use Rattle.nob_session.specs.Stands as session
use Rattle.nob_session.specs.Stands.{Roomy}
use Rattle.nob_table.specs.Table.{Table}
use Rattle.nob_model_types.specs.declared.message.Message.{Message}
use Rattle.nob_model_work.specs.Work.{after_message}
use Rattle.nob_model_history.specs.Holds.{loans_of}
use Rattle.nob_space_messages.specs.Waiting.{is_awaited, is_due_in}
use Rattle.nob_space_state.specs.Parts.{State}
use Rattle.nob_space_items.specs.Asking.{AsksFor, CanAsk, CanSendAll, SendsAll}
use Rattle.nob_space_items.specs.Lending.{CanLend, Lends}
use Rattle.nob_space_items.specs.Placing.{IsMessage}

-- an item waits at the end with a peer
abbrev pub HasFront : List Roomy → ℕ → Type 0
HasFront ends p = (end : Roomy) → slice_get ends (p - 1) ≡ Some end → 0 < length end.end.waiting

-- the end with a peer has taken the item in front, and every other end is as before
pub record Takes (old new : List Roomy) (p : ℕ) : Type 0 where
  pub before : Roomy
  pub after : Roomy
  pub was : slice_get old (p - 1) ≡ Some before
  pub is : new ≡ slice_set old (p - 1) after
  pub answer : (me peer : ℕ) (limits : Limits) (L : List EndEntry) → session.Stands me peer limits before.end L → session.Stands me peer limits after.end (Take ∷ L)

-- there is room for a message of space s and the Dirties of these references, and the message can be received
pub record CanReceive (s : ℕ) (st : State) (message : Message) (reps : List WireRep) : Type 0 where
  pub is_message : IsMessage message.item
  pub sessions : CanSendAll st.sessions reps
  pub table : CanAsk st.table reps
  pub loans : (mid : Table) → AsksFor st.table mid reps → CanLend mid (loans_of s message)
  pub peer : (1 ≤ message.from) × (message.from ≤ length st.sessions)
  pub front : (mid : List Roomy) → SendsAll st.sessions mid reps → HasFront mid message.from

-- the Dirties of these references are sent, the loans of the message are made, it is put where it goes, and its item is taken
pub record Receives (s : ℕ) (old new : State) (message : Message) (reps : List WireRep) : Type 0 where
  pub sent : List Roomy
  pub sends : SendsAll old.sessions sent reps
  pub takes : Takes sent new.sessions message.from
  pub asked : Table
  pub asks : AsksFor old.table asked reps
  pub lends : Lends asked new.table (loans_of s message)
  pub work : new.work ≡ after_message message message.item old.work
  pub awaited : (rep : WireRep) → is_awaited new.awaited rep ≡ (is_awaited old.awaited rep || is_due_in (message ∷ []) rep)
  pub dirty : new.dirty ≡ old.dirty
  pub pins : new.pins ≡ old.pins
  pub calls : new.calls ≡ old.calls
  pub jobs : new.jobs ≡ old.jobs
