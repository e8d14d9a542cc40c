-- What an answered event may have made possible at its space, and what there is to take care of.
use Rattle.std.specs.Prelude.{◌≡◌, ◌↔◌, ◌≤◌, ◌⊎◌, ℕ, Bool, true, false, ◌||◌, ◌&&◌, List, Result, Ok, Err, is_some, if◌then◌else◌}
use Rattle.nob_model_types.specs.declared.event.Event.{Event}
use Rattle.nob_model_types.specs.declared.event.Event.TheVariants as events
use Rattle.nob_model_types.specs.declared.answer.Answer.{Answer}
use Rattle.nob_model_history.specs.declared.history.History.{History}
use Rattle.nob_model_types.specs.declared.refusal.Refusal.{Refusal}
use Rattle.nob_model.specs.Next.{can_settle, can_clean, can_claim, to_withdraw}
use Rattle.nob_session.specs.declared.due.Due.{Due}
use Rattle.nob_session.specs.declared.due.Due.TheVariants as dues
use Rattle.nob_kept.specs.Dues.{due}
use Rattle.nob_kept.specs.Accounts.{Account, history_in, identity_of, is_full, with_next}
use Rattle.nob_kept.specs.Kinds.{is_closing}
use Rattle.nob_kept.specs.Receipts.{entry_of}
use Rattle.nob_kept.specs.Seats.{AddsNextOf}
use Rattle.nob_kept.specs.declared.identity.Identity.{Identity}
use Rattle.nob_kept.specs.declared.receipt.Receipt.{Receipt}
use Rattle.nob_keeper.specs.declared.waking.Prospects.{Prospects}
use Rattle.nob_keeper.specs.declared.waking.Wakes.{Wakes}

-- whether there is something to settle, to clean or to withdraw
abbrev pub can_care : (s n : ℕ) → History → Bool
can_care s n h = can_settle s n h || (can_clean s n h || is_some (to_withdraw s h))

-- whether what a Transmit would give was never given before: an item, or the Close of a session
abbrev pub is_new : Due → Bool
is_new dues.New = true
is_new dues.Close = true
is_new (_) = false

-- whether a Transmit to a space would give something that was never given
abbrev pub is_new_to : Account → ℕ → Bool
is_new_to account peer = is_new (due account.id account.n peer account.limits.window (history_in account))

-- a Transmit to some space would give something that was never given
abbrev pub HasNew : Account → Type 0
HasNew account = (peer : ℕ) × (1 ≤ peer) × (peer ≤ account.n) × (is_new_to account peer ≡ true)

-- whether there may be more to transmit: an event handed an item on or closed a session, or a frame came, which may want an Ack or make room
abbrev pub may_send : Event → Answer → Bool
may_send (events.Call target method value) answer = true
may_send (events.Finish job outcome) answer = true
may_send (events.Act peer) answer = true
may_send events.Settle answer = true
may_send events.Clean answer = true
may_send (events.Arrive frame) answer = true
may_send (events.Tick peer) answer = is_closing answer
may_send (events.Close peer) answer = true
may_send (_) answer = false

-- whether there may be more to settle, to clean or to withdraw: an event gave back a hold, acted on an item, settled a message, or closed a session
abbrev pub may_care : Event → Answer → Bool
may_care (events.Release rep) answer = true
may_care (events.TakeReply call) answer = true
may_care (events.Finish job outcome) answer = true
may_care (events.Act peer) answer = true
may_care events.Settle answer = true
may_care (events.Arrive frame) answer = is_closing answer
may_care (events.Tick peer) answer = is_closing answer
may_care (events.Close peer) answer = true
may_care (_) answer = false

-- whether there may be a job more to claim: a job ended, an item was acted on, a message was settled, or a session closed
abbrev pub may_claim : Event → Answer → Bool
may_claim (events.Finish job outcome) answer = true
may_claim (events.Act peer) answer = true
may_claim events.Settle answer = true
may_claim (events.Arrive frame) answer = is_closing answer
may_claim (events.Tick peer) answer = is_closing answer
may_claim (events.Close peer) answer = true
may_claim (_) answer = false

-- whether a reply may be ready that wasn't
abbrev pub may_reply : Event → Bool
may_reply (events.Act peer) = true
may_reply events.Settle = true
may_reply (events.Arrive frame) = true
may_reply (events.Tick peer) = true
may_reply (events.Close peer) = true
may_reply (_) = false

-- what an answered event may have made possible
abbrev pub wakes_of : Event → Answer → Wakes
wakes_of event answer = record { send = may_send event answer; care = may_care event answer; claim = may_claim event answer; reply = may_reply event }

-- all of it, or nothing
abbrev pub all_wakes : Bool → Wakes
all_wakes all = record { send = all; care = all; claim = all; reply = all }

-- what the entry of a receipt may have made possible: a refused event changed nothing
abbrev pub wakes_by : Event → Result Answer Refusal → Wakes
wakes_by event (Ok answer) = wakes_of event answer
wakes_by event (Err refusal) = all_wakes false

-- what the newest entry of an account may have made possible, of which this receipt tells: all where the account is full
abbrev pub wakes_behind : Account → Receipt → Wakes
wakes_behind account receipt = if is_full account then all_wakes true else wakes_by receipt.event receipt.result

-- what there is of what an event may have made possible: of each kind of work there is some, or the account is full
pub record AreProspects (account : Account) (wakes : Wakes) (prospects : Prospects) : Type 0 where
  pub send : (prospects.send ≡ true) ↔ ((wakes.send ≡ true) × ((is_full account ≡ true) ⊎ HasNew account))
  pub care : prospects.care ≡ (wakes.care && (is_full account || can_care account.id account.n (history_in account)))
  pub claim : prospects.claim ≡ (wakes.claim && (is_full account || can_claim (history_in account)))

-- the same of what the newest entry of an account may have made possible, of which this receipt tells
abbrev pub AreProspectsBehind : Account → Receipt → Prospects → Type 0
AreProspectsBehind account receipt prospects = AreProspects account (wakes_behind account receipt) prospects

-- the receipt that was added is that of the next entry of this space, and right behind that entry there was just so much of what it may have made possible
abbrev pub AddsAndOpens : Identity → List Receipt → List Receipt → Event → ℕ → Prospects → Type 0
AddsAndOpens identity old new event seen prospects =
    (account : Account) × (receipt : Receipt)
    × (identity_of account ≡ identity)
    × AddsNextOf account receipt old new event seen
    × AreProspectsBehind (with_next account (entry_of receipt)) receipt prospects
