-- What a receipt tells.
use Rattle.std.specs.Prelude.{◌≡◌, ◌≤◌, ℕ, ◌+◌, ◌-◌, List, length, Some, slice_get}
use Rattle.nob_ids.specs.declared.limits.Limits.{Limits}
use Rattle.nob_model_types.specs.declared.event.Event.{Event}
use Rattle.nob_model.specs.Right.{right}
use Rattle.nob_trace.specs.declared.stamped.Stamped.{Stamped}
use Rattle.nob_trace.specs.Stamps.{last_stamp}
use Rattle.nob_model_traces.specs.Traces.{journal_at}
use Rattle.nob_kept.specs.declared.receipt.Receipt.{Receipt}
use Rattle.nob_kept.specs.Accounts.{Account, next_stamp}

-- the entry that a receipt tells of
abbrev pub entry_of : Receipt → Stamped
entry_of receipt = record { stamp = receipt.stamp; event = receipt.event; result = receipt.result }

-- a receipt is told of a trace: the entry at its place has its stamp, its event and its result
abbrev pub Told : Receipt → List Stamped → Type 0
Told receipt entries = (1 ≤ receipt.place) × (slice_get entries (receipt.place - 1) ≡ Some (entry_of receipt))

-- a receipt is that of the next entry behind some of a space: its place and its stamp are the next ones, it has the event, and its result is the right one
pub record IsBehind (id n : ℕ) (limits : Limits) (entries : List Stamped) (event : Event) (seen : ℕ) (receipt : Receipt) : Type 0 where
  pub place : receipt.place ≡ length entries + 1
  pub stamp : receipt.stamp ≡ next_stamp (last_stamp 0 entries) seen
  pub event_is : receipt.event ≡ event
  pub result_is : receipt.result ≡ right id n limits (journal_at id entries) event

-- a receipt is that of the next entry of an account
abbrev pub IsNext : Account → Event → ℕ → Receipt → Type 0
IsNext account event seen receipt = IsBehind account.id account.n account.limits account.entries event seen receipt
