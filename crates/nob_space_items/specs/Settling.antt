-- Which message is settled, and what that gives and gives back, by the state.
use Rattle.std.specs.Prelude.{ℕ, Bool, true, false, ◌&&◌, ◌||◌, ◌==◌, not, List, [], ◌∷◌, Option, Some, None, Ok, if◌then◌else◌}
use Rattle.std.specs.List.{list_any}
use Rattle.nob_ids.specs.declared.wire_rep.WireRep.{WireRep}
use Rattle.nob_item.specs.declared.item.Item.{Item}
use Rattle.nob_item.specs.declared.item.Item.TheVariants as items
use Rattle.nob_pickle.specs.declared.value.Value.TheVariants as values
use Rattle.nob_model_session.specs.declared.entry.EndEntry.{EndEntry}
use Rattle.nob_model_session.specs.declared.entry.EndEntry.TheVariants.{Send}
use Rattle.nob_model_session.specs.declared.entry.Kind.TheVariants.{Note}
use Rattle.nob_table_rows.specs.declared.standing.State.{State as TableState}
use Rattle.nob_table_rows.specs.declared.standing.State.TheVariants as states
use Rattle.nob_table.specs.Table.{standing}
use Rattle.nob_model_types.specs.declared.message.Message.{Message}
use Rattle.nob_model_types.specs.Sessions.{is_peer}
use Rattle.nob_model_history.specs.Holds.{loans_of}
use Rattle.nob_model_work.specs.declared.work.Outstanding.{Outstanding}
use Rattle.nob_model_work.specs.Work.{without_first}
use Rattle.nob_space_messages.specs.Waiting.{WaitingList, is_settleable_in}
use Rattle.nob_space_state.specs.Looks.{has_closed}
use Rattle.nob_space_state.specs.Parts.{State}

-- whether it is a surrogate that its owner has refused
abbrev pub is_denied : TableState → Bool
is_denied states.Refused = true
is_denied _ = false

-- whether a reference is lost: another space's that is no peer, whose session has closed here, or that refused it
abbrev pub is_lost_here : (s n : ℕ) → State → WireRep → Bool
is_lost_here s n st rep = not (rep.owner == s) && (not (is_peer s n rep.owner) || has_closed st.sessions rep.owner || is_denied (standing st.table rep).state)

-- whether a message carries a reference that is lost
abbrev pub has_lost : (s n : ℕ) → State → Message → Bool
has_lost s n st message = list_any (λ copy. is_lost_here s n st copy.rep) message.copies

-- the number of a Call with a lost reference
abbrev pub lost_call : Item → Bool → Option ℕ
lost_call (items.Call call target method value) lost = if lost then Some call else None
lost_call (_) lost = None

-- the Reply to such a Call: status 3 and unit
abbrev pub reply_to_lost : ℕ → Item
reply_to_lost call = items.Reply call 3 values.Unit

-- the items that settling an item gives: the Settle, and the Reply to a Call with a lost reference
abbrev pub items_given : ℕ → Option ℕ → List Item
items_given k None = items.Settle k ∷ []
items_given k (Some call) = items.Settle k ∷ reply_to_lost call ∷ []

-- how many these are
abbrev pub given_count : Option ℕ → ℕ
given_count None = 1
given_count (Some call) = 2

-- the calls once a note with this payload is sent too, if there is one, with this number
abbrev pub with_note : ℕ → Option (List ℕ) → List EndEntry → List EndEntry
with_note number None calls = calls
with_note number (Some payload) calls = Send payload Note (Ok number) ∷ calls

-- the loans that end with a message that is settled: all of a lost one
abbrev pub loans_ended : ℕ → Message → Item → Bool → List WireRep
loans_ended s message (items.Call call target method value) lost = if lost then loans_of s message else []
loans_ended s message (items.Reply call status value) lost = if lost then loans_of s message else []
loans_ended s message (_) lost = loans_of s message

-- whether a message that is settled is a ready job from now on: a Call without a lost reference
abbrev pub becomes_job : Item → Bool → Bool
becomes_job (items.Call call target method value) lost = not lost
becomes_job (_) lost = false

-- the work without the first message that may be settled
abbrev pub without_settled : WaitingList → Outstanding → Outstanding
without_settled waiting work = record {
  waiting = without_first (is_settleable_in waiting) work.waiting;
  ready = work.ready;
  running = work.running;
  replies = work.replies;
  calls = work.calls;
}
