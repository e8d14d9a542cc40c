-- A seat with one receipt more.
use Rattle.std.proofs.Common.{◌≡◌, ◌⊎◌, Option, Some, unwrap_or, ℕ, ◌+◌, ◌-◌, ◌<◌, ◌≤◌, max, List, [], ◌∷◌, ◌++◌, length, reverse, sym, ap, subst, ◌∙◌, arith}
use Rattle.std.proofs.lemmas.List.{reverse-append}
use Rattle.std.proofs.lemmas.Option.{slice_get_within}
use Rattle.std.proofs.Math.Nat.{le-max_right}
use Rattle.nob_trace.specs.declared.stamped.Stamped.{Stamped}
use Rattle.nob_kept.specs.declared.receipt.Receipt.{Receipt}
use Rattle.nob_kept.specs.declared.keep.Keep.TheVariants as keeps
use Rattle.nob_kept.specs.Accounts.{Account}
use Rattle.nob_kept.specs.Staying.{IsAmong}
use Rattle.nob_kept.specs.Receipts.{Told, entry_of}
use Rattle.nob_kept.specs.Seats.{Above, PlacesRise, Has, IsThere, newest}

-- the receipt behind others is the newest
pub receipts_next : (before now : List Receipt) (receipt : Receipt) → now ≡ before ++ receipt ∷ [] → reverse now ≡ receipt ∷ reverse before
receipts_next before now receipt is = ap reverse is ∙ reverse-append before (receipt ∷ [])

-- a greater place is above the same receipts
above_more : (low high : ℕ) (receipts : List Receipt) → Above low receipts → low ≤ high → Above high receipts
above_more low high [] above more = tt
above_more low high (receipt ∷ receipts) above more = (omega (arith, above.0, more), above_more low high receipts above.1 more)

-- the next place of a trace is above all receipts of a seat of whose newest it has the entry
pub above_next : (entries : List Stamped) (receipts : List Receipt) (place : ℕ) → Has entries receipts → PlacesRise receipts → place ≡ length entries + 1 → Above place receipts
above_next entries [] place has rise is = tt
above_next entries (receipt ∷ earlier) place has rise is =
    let within : receipt.place - 1 < length entries = slice_get_within entries (receipt.place - 1) (entry_of receipt) has.1 in
    (omega (arith, within, is, has.0), above_more receipt.place place earlier rise.0 (omega (arith, within, is, has.0)))

-- the next stamp is above what was seen
pub stamp_above : (last seen stamp : ℕ) → stamp ≡ max last seen + 1 → seen < stamp
stamp_above last seen stamp is = let top : seen ≤ max last seen = le-max_right last seen in omega (arith, top, is)

-- one that is there is the one
pub first_is : (first receipt : Receipt) → Some first ≡ Some receipt → first ≡ receipt
first_is first receipt is = ap (λ (o : Option Receipt). unwrap_or o first) is

-- what a seat's newest receipt is told of has it
pub newest_told : (entries : List Stamped) (receipts : List Receipt) (receipt : Receipt) → newest receipts ≡ Some receipt → Has entries receipts → Told receipt entries
newest_told entries [] receipt is has = absurd (cc)
newest_told entries (first ∷ earlier) receipt is has = subst (λ (r : Receipt). Told r entries) (first_is first receipt is) has

-- and where its entry is there it is among those that stay
pub newest_there : (account : Account) (receipts : List Receipt) (receipt : Receipt) → newest receipts ≡ Some receipt → IsThere account receipts → (account.keep ≡ keeps.All) ⊎ IsAmong account.noted receipt.place
newest_there account [] receipt is there = absurd (cc)
newest_there account (first ∷ earlier) receipt is there = subst (λ (r : Receipt). (account.keep ≡ keeps.All) ⊎ IsAmong account.noted r.place) (first_is first receipt is) there

-- the newest of receipts of which one was added is that one
pub newest_is : (new old : List Receipt) (added receipt : Receipt) → new ≡ added ∷ old → newest new ≡ Some receipt → added ≡ receipt
newest_is new old added receipt more is = first_is added receipt (sym (ap newest more) ∙ is)
