-- Cases by hand: short lists after which a space is born, and such after which it isn't.
use Rattle.std.proofs.Common.{◌≡◌, ℕ, ◌≤◌, Bool, true, false, cond, List, [], ◌∷◌, ◌++◌, Ok, refl, ◌∙◌, arith, inr}
use Rattle.std.specs.Prelude.{◌==◌}
use Rattle.nob_ids.specs.declared.limits.Limits.{Limits}
use Rattle.nob_ids.specs.declared.reason.Reason.TheVariants.{Asked}
use Rattle.nob_model_session.specs.End.{seen}
use Rattle.nob_model_session.specs.declared.entry.EndEntry.TheVariants as ends
use Rattle.nob_model_types.specs.declared.event.Event.TheVariants as events
use Rattle.nob_model_types.specs.declared.answer.Answer.TheVariants as answers
use Rattle.nob_model_types.specs.declared.entry.Entry.{Entry}
use Rattle.nob_model_work.specs.Gifts.{gifts, gifts_of}
use Rattle.nob_model_work.specs.Work.{work_after, with_loans}
use Rattle.nob_model.specs.Right.{right_after, right_export, right_release, right_withdraw, right_closing, withdraw_refused}
use Rattle.nob_model.specs.Lists.{AreRight}
use Rattle.nob_model_lives.specs.Births.{Birth, IsBorn}
use Rattle.nob_model_lives.specs.Bridges.{Bounds, Cover, LeaveRoom, birth_behind}
use Rattle.nob_model_lives.proofs.Bridge.{bounds_law}

-- space 1, of two, exports its first object
abbrev exported : Entry
exported = record { space = 1; event = events.Export; result = Ok (answers.Exported (record { owner = 1; index = 1 })) }

-- gives it back
abbrev released : Entry
released = record { space = 1; event = events.Release (record { owner = 1; index = 1 }); result = Ok answers.Done }

-- and withdraws it
abbrev withdrawn : Entry
withdrawn = record { space = 1; event = events.Withdraw 1; result = Ok answers.Withdrawn }

-- it closes its session with space 2
abbrev closed_entry : Entry
closed_entry = record { space = 1; event = events.Close 2; result = Ok (answers.Closed Asked) }

-- these are right answers
pub rights : (limits : Limits) → AreRight 1 2 limits (closed_entry ∷ withdrawn ∷ released ∷ exported ∷ [])
unfolding right_after right_export right_release right_withdraw right_closing withdraw_refused gifts gifts_of work_after with_loans
rights limits = (refl, (refl, (refl, (refl, tt))))

-- while an object is live the space isn't born
pub live_unborn : (limits : Limits) (birth : Birth) → IsBorn 1 2 limits birth (exported ∷ []) → ⊥
live_unborn limits birth born = let clash : true ≡ false = born.none_live 1 in cc

-- nor while one is in the hand, whatever else was done
pub held_unborn : (limits : Limits) (birth : Birth) → IsBorn 1 2 limits birth (closed_entry ∷ exported ∷ []) → ⊥
held_unborn limits birth born = let clash : 1 ≡ 0 = born.none_in_hand (record { owner = 1; index = 1 }) refl in absurd (omega (arith, clash))

-- nor while a session is closed
pub closed_unborn : (limits : Limits) (birth : Birth) → IsBorn 1 2 limits birth (closed_entry ∷ withdrawn ∷ released ∷ exported ∷ []) → ⊥
closed_unborn limits birth born = let clash : true ≡ false = (born.sessions 2 refl).is_open in cc

-- nor behind another index than the last one that was given
pub index_unborn : (limits : Limits) (birth : Birth) → birth.indexes ≡ 0 → IsBorn 1 2 limits birth (withdrawn ∷ released ∷ exported ∷ []) → ⊥
index_unborn limits birth none born = let clash : 1 ≡ 0 = born.indexes ∙ none in absurd (omega (arith, clash))

-- bounds of a space that has closed its session and exported one object: they cover that, and leave room
abbrev kept : Bounds
kept = record { indexes = 1; calls = 3; session = λ p. 1 }

pub kept_covers : Cover 1 2 kept (closed_entry ∷ withdrawn ∷ released ∷ exported ∷ [])
unfolding gifts gifts_of
kept_covers = record { indexes = omega arith; calls = omega arith; few_calls = omega arith; sessions = λ p peer. omega arith; heard = λ p peer. unheard p (2 == p) }
  where
    unheard : (p : ℕ) (b : Bool) → seen (cond b (ends.Close Asked (Ok (record { peer = p; reason = Asked })) ∷ []) []) ≤ 1
    unheard p true = omega arith
    unheard p false = omega arith

pub kept_room : LeaveRoom 1 2 kept (closed_entry ∷ withdrawn ∷ released ∷ exported ∷ [])
kept_room = record { indexes = omega arith; calls = omega arith; sessions = λ p peer. omega arith; peer = inr (2, refl) }

-- so there is a bridge from there to a birth in session 3
pub kept_bridge : (limits : Limits) → (bridge : List Entry) × IsBorn 1 2 limits (birth_behind kept 0) (bridge ++ closed_entry ∷ withdrawn ∷ released ∷ exported ∷ [])
kept_bridge limits = bounds_law 1 2 limits kept (closed_entry ∷ withdrawn ∷ released ∷ exported ∷ []) (rights limits) kept_covers kept_room
