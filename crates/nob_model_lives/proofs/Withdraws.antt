-- The fourth part of the bridge: each live object is withdrawn.
use Rattle.std.proofs.Common.{◌≡◌, ℕ, zero, suc, ◌≤◌, ◌&&◌, ◌||◌, not, Bool, true, false, List, ◌∷◌, length, Some, refl, sym, ap, subst, ◌∙◌, arith, inl, inr}
use Rattle.std.specs.Prelude.{◌==◌}
use Rattle.std.proofs.lemmas.Bool.{eq-eqb, ne_eqb, not_from_true, not_from_false, both_ways, false_from_ne_true}
use Rattle.nob_ids.specs.declared.limits.Limits.{Limits}
use Rattle.nob_model_types.specs.declared.event.Event.TheVariants as events
use Rattle.nob_model_types.specs.declared.answer.Answer.TheVariants as answers
use Rattle.nob_model_types.specs.declared.refusal.Refusal.TheVariants as refusals
use Rattle.nob_model_types.specs.declared.refusal.Use.TheVariants as uses
use Rattle.nob_model_types.specs.declared.deed.Deed.{Deed}
use Rattle.nob_model_types.specs.declared.deed.Deed.TheVariants as did
use Rattle.nob_model_types.specs.Deeds.{deed_by}
use Rattle.nob_model_types.specs.Objects.{exports, is_exported, is_withdrawn, is_live}
use Rattle.nob_model_work.specs.declared.work.Outstanding.{Outstanding}
use Rattle.nob_model_work.specs.Work.{work_after, with_loans}
use Rattle.nob_model_work.specs.Gifts.{gifts, gifts_of}
use Rattle.nob_model_history.specs.Histories.{history_of}
use Rattle.nob_model_history.specs.Holds.{is_held}
use Rattle.nob_model_history.specs.Listing.{is_any_listed}
use Rattle.nob_model_history.specs.Transit.{pins}
use Rattle.nob_model_acting.specs.Sending.{◌or_else◌, refuse_if, unless}
use Rattle.nob_model.specs.Right.{right_after, right_withdraw, withdraw_refused, own_ref}
use Rattle.nob_model.specs.Lists.{IsRightDeed, AreRightDeeds}
use Rattle.nob_model_lives.proofs.Closes.{below_or_next}
use Rattle.nob_model_lives.proofs.Leads.{Leads, stays, leads_by, leads_on, leads_as}
use Rattle.nob_model_lives.proofs.Shown.{Shown, shown_by, withdraw_shows}
use Rattle.nob_model_lives.proofs.Still.{IsStill, AreShut, AreGone, still_unheld, still_unpinned, still_unlisted, live_given}

withdrawn_by : (index : ℕ) (agent gone held pinned listed : Bool) → agent ≡ false → gone ≡ false → held ≡ false → pinned ≡ false → listed ≡ false → deed_by (events.Withdraw index) (unless (refuse_if agent (refusals.StillUsed uses.Agent) or_else refuse_if gone refusals.NoObject or_else refuse_if held (refusals.StillUsed uses.Held) or_else refuse_if pinned (refusals.StillUsed uses.InTransit) or_else refuse_if listed (refusals.StillUsed uses.Listed)) answers.Withdrawn) ≡ Some (did.Withdraw index)
withdrawn_by index true gone held pinned listed a b c d e = cc
withdrawn_by index false true held pinned listed a b c d e = cc
withdrawn_by index false false true pinned listed a b c d e = cc
withdrawn_by index false false false true listed a b c d e = cc
withdrawn_by index false false false false true a b c d e = cc
withdrawn_by index false false false false false a b c d e = refl

-- a live object of a space at rest is withdrawn
pub withdraw_right : (s n : ℕ) (limits : Limits) (index : ℕ) (D : List Deed) → IsStill s n limits D → is_live s index D ≡ true → IsRightDeed s n limits (did.Withdraw index) D
unfolding right_after right_withdraw withdraw_refused
withdraw_right s n limits index D its alive =
    let some = (live_given s n limits D its.right index alive).0 in
    let counted : (index == 0) ≡ false = ne_eqb index 0 (λ none. omega (arith, none, some)) in (
      events.Withdraw index,
      withdrawn_by index (index == 0) (not (is_live s index D)) (is_held s (own_ref s index) (history_of s n D)) (not (pins (own_ref s index) (history_of s n D) == 0)) (is_any_listed s index D)
          counted (not_from_true (is_live s index D) alive) (still_unheld s n limits D its (own_ref s index) (not_from_false (index == 0) counted)) (not_from_true (pins (own_ref s index) (history_of s n D) == 0) (eq-eqb (pins (own_ref s index) (history_of s n D)) 0 (still_unpinned s n limits D its (own_ref s index)))) (still_unlisted s n limits D its index),
    )

-- it stays at rest
pub withdraw_still : (s n : ℕ) (limits : Limits) (index : ℕ) (D : List Deed) → IsRightDeed s n limits (did.Withdraw index) D → IsStill s n limits D → IsStill s n limits (did.Withdraw index ∷ D)
unfolding work_after with_loans gifts gifts_of
withdraw_still s n limits index D right its = record {
  right = (right, its.right);
  empty = its.empty;
  none_outstanding = ap (λ (W : Outstanding). with_loans s n (did.Withdraw index ∷ D) W) its.none_outstanding;
  none_listed = its.none_listed;
  none_pinned = its.none_pinned;
}

-- what isn't live isn't after a Withdraw, nor is what is withdrawn
pub withdraw_gone : (s index x : ℕ) (D : List Deed) → is_live s index D ≡ false → is_live s index (did.Withdraw x ∷ D) ≡ false
withdraw_gone s index x D gone = step (is_exported s index D) (x == index) (is_withdrawn index D) gone
  where
    step : (given now before : Bool) → (given && not before) ≡ false → (given && not (now || before)) ≡ false
    step false now before e = refl
    step true true before e = refl
    step true false before e = e

pub withdrawn_gone : (s x : ℕ) (D : List Deed) → is_live s x (did.Withdraw x ∷ D) ≡ false
withdrawn_gone s x D = step (is_exported s x D) (x == x) (is_withdrawn x D) (eq-eqb x x refl)
  where
    step : (given now before : Bool) → now ≡ true → (given && not (now || before)) ≡ false
    step false now before e = refl
    step true true before e = refl
    step true false before e = cc

module _ (s n : ℕ) (limits : Limits) (x : Shown) where
  -- a space at rest that showed this, with its sessions closed
  pub record Waits (D : List Deed) : Type 0 where
    pub still : IsStill s n limits D
    pub shows : shown_by s n D ≡ x
    pub shut : AreShut s n D

  -- no object up to an index is live
  abbrev GoneUpTo : ℕ → List Deed → Type 0
  GoneUpTo m D = Waits D × ((index : ℕ) → index ≤ m → is_live s index D ≡ false)

  up_to_next : (m : ℕ) (E : List Deed) → ((index : ℕ) → index ≤ m → is_live s index E ≡ false) → is_live s (suc m) E ≡ false → (index : ℕ) → index ≤ suc m → is_live s index E ≡ false
  up_to_next m E gone last index low = elim (below_or_next index m low) [
    | inl below ↦ gone index below
    | inr same ↦ subst (λ (i : ℕ). is_live s i E ≡ false) (sym same) last
  ]

  withdraw_if : (m : ℕ) (D : List Deed) → GoneUpTo m D → (alive : Bool) → is_live s (suc m) D ≡ alive → Leads (GoneUpTo (suc m)) D
  withdraw_if m D its false e = stays (GoneUpTo (suc m)) D (its.0, up_to_next m D its.1 e)
  withdraw_if m D its true e =
      let right = withdraw_right s n limits (suc m) D its.0.still e in
      leads_by (GoneUpTo (suc m)) (did.Withdraw (suc m)) D refl (
        record { still = withdraw_still s n limits (suc m) D right its.0.still; shows = withdraw_shows s n (suc m) D ∙ its.0.shows; shut = its.0.shut },
        up_to_next m (did.Withdraw (suc m) ∷ D) (λ index low. withdraw_gone s index (suc m) D (its.1 index low)) (withdrawn_gone s (suc m) D),
      )

  none_first : (D : List Deed) → AreRightDeeds s n limits D → (index : ℕ) → index ≤ zero → is_live s index D ≡ false
  none_first D right index low = false_from_ne_true (is_live s index D) (λ alive. let some = (live_given s n limits D right index alive).0 in omega (arith, some, low))

  withdraw_up_to : (m : ℕ) (D : List Deed) → Waits D → Leads (GoneUpTo m) D
  withdraw_up_to zero D its = stays (GoneUpTo zero) D (its, none_first D its.still.right)
  withdraw_up_to (suc m) D its = leads_on (GoneUpTo m) (GoneUpTo (suc m)) D (withdraw_up_to m D its) (λ E more. withdraw_if m E more (is_live s (suc m) E) refl)

  all_gone : (D : List Deed) → GoneUpTo x.indexes D → AreGone s D
  all_gone D its index = false_from_ne_true (is_live s index D) (λ alive.
      let given = (live_given s n limits D its.0.still.right index alive).1 in
      let all : length (exports D) ≡ x.indexes = ap (λ (one : Shown). one.indexes) its.0.shows in
      both_ways (is_live s index D) (its.1 index (omega (arith, given, all))) alive)

  -- each live object is withdrawn
  pub withdraw_all : (D : List Deed) → Waits D → Leads (λ E. Waits E × AreGone s E) D
  withdraw_all D its = leads_as (GoneUpTo x.indexes) (λ E. Waits E × AreGone s E) D (λ E more. (more.0, all_gone E more)) (withdraw_up_to x.indexes D its)
