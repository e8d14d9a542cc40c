-- A seat: the receipts of one caller, the newest of which stands FIRST.
use Rattle.std.specs.Prelude.{◌≡◌, ◌≢◌, ◌<◌, ◌≤◌, ◌+◌, ◌⊎◌, ℕ, List, [], ◌∷◌, length, Option, Some, None}
use Rattle.std.specs.List.{AllByRecursion}
use Rattle.nob_model_types.specs.declared.event.Event.{Event}
use Rattle.nob_past.specs.Lists.{Listed}
use Rattle.nob_trace.specs.declared.stamped.Stamped.{Stamped}
use Rattle.nob_kept.specs.declared.identity.Identity.{Identity}
use Rattle.nob_kept.specs.declared.receipt.Receipt.{Receipt}
use Rattle.nob_kept.specs.declared.error.KeeperError.{KeeperError}
use Rattle.nob_kept.specs.declared.error.KeeperError.TheVariants as errors
use Rattle.nob_kept.specs.declared.keep.Keep.TheVariants as keeps
use Rattle.nob_kept.specs.Staying.{IsAmong}
use Rattle.nob_kept.specs.Accounts.{Account, IsAccount, identity_of, with_next, with_noted, fault_of}
use Rattle.nob_kept.specs.Receipts.{Told, IsNext, entry_of}

-- the newest receipt
abbrev pub newest : List Receipt → Option Receipt
newest [] = None
newest (receipt ∷ earlier) = Some receipt

-- a place is above those of all receipts
abbrev pub Above : ℕ → List Receipt → Type 0
Above place receipts = AllByRecursion (λ receipt. receipt.place < place) receipts

-- each receipt's place is above those of the receipts before
abbrev pub PlacesRise : List Receipt → Type 0
PlacesRise [] = Unit {0}
PlacesRise (receipt ∷ earlier) = Above receipt.place earlier × PlacesRise earlier

-- nothing of a list was let go, or not its newest item
abbrev pub HasNewest : {T : Type 0} → Listed T → Type 0
HasNewest list = (list.gone ≡ 0) ⊎ (list.gone < length list.items)

-- the newest receipt of a seat, if it has one, is told of the entries
abbrev pub Has : List Stamped → List Receipt → Type 0
Has entries [] = Unit {0}
Has entries (receipt ∷ earlier) = Told receipt entries

-- the entry of the newest receipt of a seat, if it has one, is among those that stay: all entries do, or those of the noted places
abbrev pub IsThere : Account → List Receipt → Type 0
IsThere account [] = Unit {0}
IsThere account (receipt ∷ earlier) = (account.keep ≡ keeps.All) ⊎ IsAmong account.noted receipt.place

-- 1 for the first call of a seat, and 0 after it
abbrev pub first_call : List Receipt → ℕ
first_call [] = 1
first_call (receipt ∷ earlier) = 0

-- a place isn't that of a seat's newest receipt
abbrev pub IsNotNewest : List Receipt → ℕ → Type 0
IsNotNewest [] place = Unit {0}
IsNotNewest (receipt ∷ earlier) place = receipt.place ≢ place

-- the entry of a seat's newest receipt stays, in the place of the one before: the others that stayed do so still
pub record StaysNewest (before after : Account) (old new : List Receipt) : Type 0 where
  pub newest : IsThere after new
  pub others : (place : ℕ) → IsAmong before.noted place → IsNotNewest old place → IsAmong after.noted place
  pub few : length after.noted ≤ length before.noted + first_call old

-- the newest receipt of each of these seats is told of the entries
abbrev pub HasAll : List Stamped → List (List Receipt) → Type 0
HasAll entries [] = Unit {0}
HasAll entries (seat ∷ seats) = Has entries seat × HasAll entries seats

-- the entry of the newest receipt of each of these seats stays
abbrev pub AreAllThere : Account → List (List Receipt) → Type 0
AreAllThere account [] = Unit {0}
AreAllThere account (seat ∷ seats) = IsThere account seat × AreAllThere account seats

-- one receipt was added, of this event, stamped above what was seen, at a place above those before
abbrev pub Adds : List Receipt → List Receipt → Event → ℕ → Type 0
Adds old new event seen = (receipt : Receipt) × (new ≡ receipt ∷ old) × (receipt.event ≡ event) × (seen < receipt.stamp) × Above receipt.place old

-- a receipt was added, and it is that of the next entry of this account, whose results are right and which has the receipt before
pub record AddsNextOf (account : Account) (receipt : Receipt) (old new : List Receipt) (event : Event) (seen : ℕ) : Type 0 where
  pub added : new ≡ receipt ∷ old
  pub is_account : IsAccount account
  pub has : Has account.entries old
  pub next : IsNext account event seen receipt

-- the receipt that was added is that of the next entry of this space
abbrev pub AddsNext : Identity → List Receipt → List Receipt → Event → ℕ → Type 0
AddsNext identity old new event seen = (account : Account) × (receipt : Receipt) × (identity_of account ≡ identity) × AddsNextOf account receipt old new event seen

-- what is kept has one entry more, the next one, of which the receipt that was added tells
abbrev pub AddsTo : Account → Account → List Receipt → List Receipt → Event → ℕ → Type 0
AddsTo before after old new event seen = (receipt : Receipt) × AddsNextOf before receipt old new event seen × (after ≡ with_noted after.noted (with_next before (entry_of receipt)))

-- what refuses a call, memory aside: the trace hasn't the seat's newest receipt, or its entry doesn't stay; or no entry more can be made
abbrev pub IsFault : Account → List Receipt → ℕ → KeeperError → Type 0
IsFault account receipts seen error = ((error ≡ errors.Seats) × (Has account.entries receipts → IsThere account receipts → ⊥)) ⊎ (fault_of account seen ≡ Some error)
