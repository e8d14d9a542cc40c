-- Who waits at a keeper, and whom an entry wakes.
use Rattle.std.specs.Prelude.{◌≡◌, ◌⊎◌, ℕ, ◌+◌, ◌-◌, ◌%◌, ◌^◌, min, nat_lt, Bool, true, false, ◌||◌, ◌&&◌, List, Some, slice_get, remove}
use Rattle.std.specs.List.{AllByRecursion}
use Rattle.nob_model.specs.Next.{reply_ready}
use Rattle.nob_keeper.specs.declared.desk.Desk.{Desk}
use Rattle.nob_keeper.specs.declared.desk.Watch.{Watch}
use Rattle.nob_keeper.specs.declared.held.Notice.{Notice}
use Rattle.nob_kept.specs.declared.receipt.Receipt.{Receipt}
use Rattle.nob_keeper.specs.declared.waking.Wakes.{Wakes}
use Rattle.nob_kept.specs.Accounts.{Account, history_in, is_full}
use Rattle.nob_kept.specs.Seats.{newest}
use Rattle.nob_kept.specs.Staying.{IsAmong}
use Rattle.nob_keeper.specs.Waking.{AreProspectsBehind, wakes_by}

-- a desk that knows this of those who wait for something to transmit, and else what it knew
abbrev pub with_watch : Watch → Desk → Desk
with_watch watch desk = record { send = watch; waiting = desk.waiting }

-- whether somebody waits for something to transmit
abbrev pub is_parked : Desk → Bool
is_parked desk = nat_lt 0 desk.send.parked

-- an entry at this place may have made something to transmit, if it did
abbrev pub last_noted : Bool → ℕ → Watch → Watch
last_noted true place watch = record { last = place; stopped = watch.stopped; parked = watch.parked }
last_noted false place watch = watch

-- a desk that remembers that the entry at this place may have made this possible
abbrev pub noted_at : Wakes → ℕ → Desk → Desk
noted_at wakes place desk = with_watch (last_noted wakes.send place desk.send) desk

-- those who wait for something to transmit are told to stop
abbrev pub with_stop : Watch → Watch
with_stop watch = record { last = watch.last; stopped = true; parked = watch.parked }

-- nobody waits for something to transmit, which no entry has made yet
abbrev pub first_watch : Watch
first_watch = record { last = 0; stopped = false; parked = 0 }

-- one more waits for something to transmit, as far as they are counted
abbrev pub with_one_more : Watch → Watch
with_one_more watch = record { last = watch.last; stopped = watch.stopped; parked = min (watch.parked + 1) (2 ^ 64 - 1) }

-- one fewer waits for something to transmit
abbrev pub with_one_fewer : Watch → Watch
with_one_fewer watch = record { last = watch.last; stopped = watch.stopped; parked = watch.parked - 1 }

-- one fewer waits for the reply to a call, if somebody did
abbrev pub IsLeft : ℕ → List ℕ → List ℕ → Type 0
IsLeft call old new = ((IsAmong old call → ⊥) × (new ≡ old)) ⊎ ((place : ℕ) × (slice_get old place ≡ Some call) × (new ≡ remove old place))

-- the place at which one waits for the reply to a call
abbrev pub place_of : ℕ → ℕ
place_of call = call % 32

-- whether those who wait are woken: the entry may have made work for them and they wait for what there is, or the account is full
abbrev pub is_woken : Account → (may waits : Bool) → Bool
is_woken account may waits = is_full account || (may && waits)

-- each of these calls whose reply is ready has its place marked
abbrev pub AreMarked : (ready : ℕ → Bool) → List Bool → List ℕ → Type 0
AreMarked ready places calls = AllByRecursion (λ call. ready call ≡ true → slice_get places (place_of call) ≡ Some true) calls

-- whom to wake behind the newest entry of an account, of which this receipt tells, where these wait: all where the account is full; else who waits for something to transmit, where the entry may have made some, and whose reply is ready
pub record IsNotice (account : Account) (desk : Desk) (receipt : Receipt) (notice : Notice) : Type 0 where
  pub prospects : AreProspectsBehind account receipt notice.prospects
  pub send : notice.send ≡ is_woken account (wakes_by receipt.event receipt.result).send (is_parked desk)
  pub replies : AreMarked (λ call. is_woken account (wakes_by receipt.event receipt.result).reply (reply_ready call (history_in account))) notice.replies desk.waiting.items

-- the same of the newest of these receipts; and the desk remembers what its entry may have made possible
abbrev pub IsNoticeOf : Account → Desk → Desk → List Receipt → Notice → Type 0
IsNoticeOf account before after receipts notice =
    (receipt : Receipt)
    × (newest receipts ≡ Some receipt)
    × IsNotice account before receipt notice
    × (after ≡ noted_at (wakes_by receipt.event receipt.result) receipt.place before)
