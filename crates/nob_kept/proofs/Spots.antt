-- What stays of the newest entries of seats once one of them has asked.
use Rattle.std.proofs.Common.{◌≡◌, ◌≢◌, ◌⊎◌, inl, inr, ℕ, ◌+◌, ◌-◌, ◌≤◌, List, [], ◌∷◌, ◌++◌, length, Option, Some, None, Result, Ok, Err, IfErr, OnErr, slice_get, refl, sym, ap, subst, ◌∙◌, arith}
use Rattle.std.proofs.lemmas.Option.{slice_get_within, get_or_from_slice_get}
use Rattle.nob_kept.specs.declared.keep.Keep.{Keep}
use Rattle.nob_kept.specs.declared.keep.Keep.TheVariants as keeps
use Rattle.nob_kept.specs.declared.receipt.Receipt.{Receipt}
use Rattle.nob_trace.specs.declared.stamped.Stamped.{Stamped}
use Rattle.nob_kept.specs.declared.error.KeeperError.{KeeperError}
use Rattle.nob_kept.specs.declared.error.KeeperError.TheVariants as errors
use Rattle.nob_kept.specs.declared.noted.Noted.{Noted}
use Rattle.nob_kept.specs.Staying.{AreStaying, AreNoted, IsAmong, IsNoted}
use Rattle.nob_kept.specs.Spots.{IsSpotOf, StaysAt, noted_after, noted_next}
use Rattle.nob_kept.specs.Accounts.{Account, with_next, with_noted}
use Rattle.nob_kept.specs.Receipts.{Told, entry_of}
use Rattle.nob_kept.specs.Seats.{Has, IsNotNewest, IsThere, StaysNewest, newest, first_call}
use Rattle.nob_kept.proofs.Seats.{newest_told, newest_there}
use Rattle.nob_kept.proofs.Staying.{at_next, noted_stay, put_among, put_others, put_count, put_more}

-- the place that was put there is among those that stay, where not all do
newest_by : (k : Keep) (spot place : ℕ) (noted : List ℕ) → spot ≤ length noted → (k ≡ keeps.All) ⊎ IsAmong (noted_after k spot place noted) place
newest_by keeps.All spot place noted within = inl refl
newest_by keeps.Nothing spot place noted within = inr (put_among spot place noted within)

-- another seat's spot is another
apart : (noted : List ℕ) (receipts : List Receipt) (spot at other : ℕ) → StaysAt noted receipts spot → slice_get noted at ≡ Some other → IsNotNewest receipts other → at ≢ spot
apart noted [] spot at other stays is different same = let within = slice_get_within noted at other is in omega (arith, within, stays, same)
apart noted (receipt ∷ earlier) spot at other stays is different same =
    different (sym (get_or_from_slice_get noted spot receipt.place 0 stays) ∙ get_or_from_slice_get noted spot other 0 (ap (slice_get noted) (sym same) ∙ is))

-- and what stays there does so still
others_by : (k : Keep) (spot place : ℕ) (noted : List ℕ) (receipts : List Receipt) → (k ≡ keeps.Nothing → StaysAt noted receipts spot)
    → (other : ℕ) → IsAmong noted other → IsNotNewest receipts other → IsAmong (noted_after k spot place noted) other
others_by keeps.All spot place noted receipts stays other is different = is
others_by keeps.Nothing spot place noted receipts stays other is different = put_others spot place noted other is.0 is.1 (apart noted receipts spot is.0 other (stays refl) is.1 different)

-- one more stays at most, and none where the seat has a spot
few_by : (k : Keep) (spot place : ℕ) (noted : List ℕ) (receipts : List Receipt) → (k ≡ keeps.Nothing → StaysAt noted receipts spot) → length (noted_after k spot place noted) ≤ length noted + first_call receipts
few_by keeps.All spot place noted receipts stays = omega arith
few_by keeps.Nothing spot place noted [] stays = put_more spot place noted
few_by keeps.Nothing spot place noted (receipt ∷ earlier) stays =
    let same = put_count spot place noted (slice_get_within noted spot receipt.place (stays refl)) in omega (arith, same)

-- the newest entry of a seat that has asked stays, in the place of the one before
pub stays_newest : (account after : Account) (receipts : List Receipt) (receipt : Receipt) (spot : ℕ)
    → IsSpotOf account receipts spot → receipt.place ≡ length account.entries + 1 → after ≡ with_noted (noted_next account spot) (with_next account (entry_of receipt))
    → StaysNewest account after receipts (receipt ∷ receipts)
stays_newest account after receipts receipt spot its place is =
    subst (λ (a : Account). StaysNewest account a receipts (receipt ∷ receipts)) (sym is) (record {
      newest = subst (λ (p : ℕ). (account.keep ≡ keeps.All) ⊎ IsAmong (noted_next account spot) p) (sym place) (newest_by account.keep spot (length account.entries + 1) account.noted its.within);
      others = λ other there different. others_by account.keep spot (length account.entries + 1) account.noted receipts its.stays other there different;
      few = few_by account.keep spot (length account.entries + 1) account.noted receipts its.stays;
    })

-- where only what stays is kept, that is at its places
pub noted_there : (keep : Keep) (entries : List Stamped) (noted : List Noted) → AreStaying keep entries noted → keep ≡ keeps.Nothing → AreNoted entries noted
noted_there keeps.All entries noted kept is = absurd (cc)
noted_there keeps.Nothing entries noted kept is = kept

-- a seat is refused only where its newest receipt isn't told of the entries, or its entry isn't there
pub refused : (account : Account) (receipts : List Receipt) (receipt : Receipt) (result : Result ℕ KeeperError) → account.keep ≡ keeps.Nothing → newest receipts ≡ Some receipt
    → IfErr result (λ error. error ≡ errors.Seats) → OnErr result (Told receipt account.entries → IsAmong account.noted receipt.place → ⊥)
    → IfErr result (λ error. (error ≡ errors.Seats) × (Has account.entries receipts → IsThere account receipts → ⊥))
refused account receipts receipt (Ok spot) nothing is error not = tt
refused account receipts receipt (Err fault) nothing is error not =
    (error, λ has there. elim (newest_there account receipts receipt is there) as (λ h. ⊥) [ inl all ↦ absurd (cc) | inr among ↦ not (newest_told account.entries receipts receipt is has) among ])

-- of a new space nothing stays
pub staying_new : (keep : Keep) (entries : List Stamped) (noted : List Noted) → noted ≡ [] → AreStaying keep entries noted
staying_new keeps.All entries noted none = none
staying_new keeps.Nothing entries noted none = subst (AreNoted entries) (sym none) tt

-- what stays where one entry more is made
pub staying_more : (keep : Keep) (old new : List Stamped) (entry : Stamped) (noted : List Noted) → new ≡ old ++ entry ∷ [] → AreStaying keep old noted → AreStaying keep new noted
staying_more keeps.All old new entry noted items kept = kept
staying_more keeps.Nothing old new entry noted items kept = subst (λ (es : List Stamped). AreNoted es noted) (sym items) (noted_stay old (entry ∷ []) noted kept)

-- the entry behind others is that of the next place
noted_next_one : (old new : List Stamped) (told entry : Stamped) (place : ℕ) → new ≡ old ++ told ∷ [] → Some told ≡ Some entry → place ≡ length old + 1
    → IsNoted new (record { place = place; entry = entry })
noted_next_one old new told entry place items is at =
    let here : place - 1 ≡ length old = omega (arith, at) in
    (omega (arith, at), ap (slice_get new) here ∙ ap (λ (es : List Stamped). slice_get es (length old)) items ∙ at_next old told ∙ is)

-- what stays where the entry that was passed on does
pub staying_put : (keep : Keep) (old new : List Stamped) (told entry : Stamped) (passed : Option Stamped) (place : ℕ) (noted before after : List Noted)
    → new ≡ old ++ told ∷ [] → (keep ≡ keeps.All → passed ≡ None) → (keep ≡ keeps.Nothing → passed ≡ Some told)
    → passed ≡ Some entry → place ≡ length old + 1 → before ≡ noted → AreStaying keep old noted
    → ((entries : List Stamped) → AreNoted entries before → IsNoted entries (record { place = place; entry = entry }) → AreNoted entries after)
    → AreStaying keep new after
staying_put keeps.All old new told entry passed place noted before after items all nothing is at same kept put =
    let none : passed ≡ None = all refl in absurd (cc)
staying_put keeps.Nothing old new told entry passed place noted before after items all nothing is at same kept put =
    let stay : AreNoted new noted = subst (λ (es : List Stamped). AreNoted es noted) (sym items) (noted_stay old (told ∷ []) noted kept) in
    put new (subst (AreNoted new) (sym same) stay) (noted_next_one old new told entry place items (sym (nothing refl) ∙ is) at)
