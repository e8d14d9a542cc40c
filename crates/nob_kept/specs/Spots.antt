-- The spots at which the newest entries of seats stay.
use Rattle.std.specs.Prelude.{◌≡◌, ◌≤◌, ℕ, ◌+◌, List, [], ◌∷◌, length, Some, slice_get}
use Rattle.nob_kept.specs.declared.receipt.Receipt.{Receipt}
use Rattle.nob_kept.specs.declared.keep.Keep.{Keep}
use Rattle.nob_kept.specs.declared.keep.Keep.TheVariants as keeps
use Rattle.nob_kept.specs.Staying.{put_at}
use Rattle.nob_kept.specs.Accounts.{Account}

-- an entry may stay at a spot: one of those that there are, or the next
abbrev pub IsSpot : Account → ℕ → Type 0
IsSpot account spot = spot ≤ length account.noted

-- where nothing is kept: the newest entry of a seat stays at a spot, and a seat without one gets the next
abbrev pub StaysAt : List ℕ → List Receipt → ℕ → Type 0
StaysAt noted [] spot = spot ≡ length noted
StaysAt noted (receipt ∷ earlier) spot = slice_get noted spot ≡ Some receipt.place

-- a spot is that of a seat
pub record IsSpotOf (account : Account) (receipts : List Receipt) (spot : ℕ) : Type 0 where
  pub within : IsSpot account spot
  pub stays : account.keep ≡ keeps.Nothing → StaysAt account.noted receipts spot

-- what stays once an entry more is made for a spot
abbrev pub noted_after : Keep → (spot place : ℕ) → List ℕ → List ℕ
noted_after keeps.All spot place noted = noted
noted_after keeps.Nothing spot place noted = put_at spot place noted

-- the same in an account
abbrev pub noted_next : Account → ℕ → List ℕ
noted_next account spot = noted_after account.keep spot (length account.entries + 1) account.noted
