-- The third part of the bridge, first half: all that is in the hand is given back.
use Rattle.std.proofs.Common.{◌≡◌, ℕ, zero, suc, ◌-◌, ◌≤◌, ◌&&◌, ◌||◌, not, Bool, true, false, cond, List, [], ◌∷◌, length, filter, Some, refl, ap, ◌∙◌, arith}
use Rattle.std.specs.Prelude.{◌==◌, nat_le}
use Rattle.std.specs.List.{AllByRecursion}
use Rattle.std.proofs.lemmas.Bool.{ne_eqb, and_right, or_from, leb-true, leb-false, not_from_true, both_ways}
use Rattle.nob_ids.specs.Names.{is_same, is_counted}
use Rattle.nob_ids.specs.declared.limits.Limits.{Limits}
use Rattle.nob_ids.specs.declared.wire_rep.WireRep.{WireRep}
use Rattle.nob_model_types.specs.declared.event.Event.TheVariants as events
use Rattle.nob_model_types.specs.declared.answer.Answer.TheVariants as answers
use Rattle.nob_model_types.specs.declared.refusal.Refusal.TheVariants as refusals
use Rattle.nob_model_types.specs.declared.deed.Deed.{Deed}
use Rattle.nob_model_types.specs.declared.deed.Deed.TheVariants as did
use Rattle.nob_model_types.specs.Deeds.{deed_by}
use Rattle.nob_model_types.specs.Objects.{is_live}
use Rattle.nob_model_types.specs.Turns.{is_own}
use Rattle.nob_model_history.specs.Histories.{history_of}
use Rattle.nob_model_history.specs.Holds.{times, gains, releases, hand}
use Rattle.nob_model_history.proofs.Dirtying.{same_self}
use Rattle.nob_model_acting.specs.Sending.{◌or_else◌, refuse_if, unless, is_gone}
use Rattle.nob_model.specs.Right.{right_after, right_release}
use Rattle.nob_model.specs.Lists.{IsRightDeed, AreRightDeeds}
use Rattle.nob_model_holdings.proofs.Holding.{OfCounted, times_some}
use Rattle.nob_model_holdings.proofs.Holdings.{hand_held}
use Rattle.nob_model_holdings.proofs.Alive.{held_alive}
use Rattle.nob_model_lives.proofs.Leads.{Leads, stays, leads_by, leads_on, leads_as}

released_by : (rep : WireRep) (gone none : Bool) → gone ≡ false → none ≡ false → deed_by (events.Release rep) (unless (refuse_if gone refusals.NoObject or_else refuse_if none refusals.NotHeld) answers.Done) ≡ Some (did.Release rep)
released_by rep true none here some = cc
released_by rep false true here some = cc
released_by rep false false here some = refl

not_gone : (own alive : Bool) → (own ≡ true → alive ≡ true) → (own && not alive) ≡ false
not_gone false alive is = refl
not_gone true true is = refl
not_gone true false is = let clash : false ≡ true = is refl in cc

-- a counted reference that is in the hand is given back
pub release_right : (s n : ℕ) (limits : Limits) (rep : WireRep) (D : List Deed) → AreRightDeeds s n limits D → is_counted rep ≡ true → 1 ≤ hand rep D → IsRightDeed s n limits (did.Release rep) D
unfolding right_after right_release
release_right s n limits rep D right counted some = (
  events.Release rep,
  released_by rep (is_counted rep && is_gone s rep (history_of s n D)) (not (is_counted rep) || hand rep D == 0)
      (and_right (is_counted rep) (is_gone s rep (history_of s n D)) (not_gone (is_own s rep) (is_live s rep.index D) (λ own. held_alive s n limits rep D right counted own (hand_held s n limits rep D right some))))
      (or_from (not (is_counted rep)) (hand rep D == 0) (not_from_true (is_counted rep) counted) (ne_eqb (hand rep D) 0 (λ none. omega (arith, some, none)))),
)

-- ---- the hand after a Release

less_by : (b : Bool) (other : WireRep) (gained : ℕ) (gone : List WireRep) → gained - length (cond b (other ∷ gone) gone) ≤ gained - length gone
less_by true other gained gone = omega arith
less_by false other gained gone = omega arith

-- no more is in the hand
pub release_less : (rep other : WireRep) (D : List Deed) → hand other (did.Release rep ∷ D) ≤ hand other D
release_less rep other D = less_by (is_same other rep) rep (times other (gains D)) (filter (is_same other) (releases D))

-- one fewer of it is
pub release_one : (rep : WireRep) (D : List Deed) → hand rep (did.Release rep ∷ D) ≡ hand rep D - 1
release_one rep D =
    ap (λ (b : Bool). times rep (gains D) - length (cond b (rep ∷ filter (is_same rep) (releases D)) (filter (is_same rep) (releases D)))) (same_self rep)
    ∙ one_less (times rep (gains D)) (times rep (releases D))
  where
    one_less : (gained gone : ℕ) → gained - suc gone ≡ (gained - gone) - 1
    one_less gained gone = omega arith

-- nothing is in the hand
abbrev pub IsEmptyHand : List Deed → Type 0
IsEmptyHand D = (rep : WireRep) → is_counted rep ≡ true → hand rep D ≡ 0

-- what a reference's Releases lead to: the same came into the hand, no more is in it, and of the reference nothing
abbrev IsFreed : WireRep → (D E : List Deed) → Type 0
IsFreed rep D E = (gains E ≡ gains D) × ((other : WireRep) → hand other E ≤ hand other D) × (hand rep E ≡ 0)

abbrev AreFreed : List WireRep → (D E : List Deed) → Type 0
AreFreed reps D E = (gains E ≡ gains D) × ((other : WireRep) → hand other E ≤ hand other D) × AllByRecursion (OfCounted (λ rep. hand rep E ≡ 0)) reps

-- P holds of right deeds, and goes on to hold where something is given back
module _ (s n : ℕ) (limits : Limits) (P : List Deed → Type 0)
    (are_right : (D : List Deed) → P D → AreRightDeeds s n limits D)
    (kept : (rep : WireRep) (D : List Deed) → P D → IsRightDeed s n limits (did.Release rep) D → P (did.Release rep ∷ D)) where
  abbrev Fewer : WireRep → ℕ → (D E : List Deed) → Type 0
  Fewer rep m D E = P E × (gains E ≡ gains D) × ((other : WireRep) → hand other E ≤ hand other D) × (hand rep E ≤ m)

  free_by : (rep : WireRep) (m : ℕ) (D : List Deed) → ((E : List Deed) → P E → hand rep E ≤ m → Leads (λ F. P F × IsFreed rep E F) E) → is_counted rep ≡ true → P D → hand rep D ≤ suc m → (some : Bool) → nat_le 1 (hand rep D) ≡ some → Leads (λ E. P E × IsFreed rep D E) D
  free_by rep m D further counted its low false e = stays (λ E. P E × IsFreed rep D E) D (its, (refl, (λ other. omega arith), (let none = leb-false 1 (hand rep D) e in omega (arith, none))))
  free_by rep m D further counted its low true e =
      let some = leb-true 1 (hand rep D) e in
      let less = release_one rep D in
      leads_on (Fewer rep m D) (λ E. P E × IsFreed rep D E) D
      (leads_by (Fewer rep m D) (did.Release rep) D refl (kept rep D its (release_right s n limits rep D (are_right D its) counted some), refl, (λ other. release_less rep other D), omega (arith, less, low, some)))
      (λ E more. leads_as (λ F. P F × IsFreed rep E F) (λ F. P F × IsFreed rep D F) E (λ F freed. (freed.0, (freed.1.0 ∙ more.1, (λ other. let one = freed.1.1 other in let two = more.2 other in omega (arith, one, two)), freed.1.2))) (further E more.0 more.3))

  free_one : (rep : WireRep) (m : ℕ) (D : List Deed) → is_counted rep ≡ true → P D → hand rep D ≤ m → Leads (λ E. P E × IsFreed rep D E) D
  free_one rep zero D counted its low = stays (λ E. P E × IsFreed rep D E) D (its, (refl, (λ other. omega arith), omega (arith, low)))
  free_one rep (suc m) D counted its low = free_by rep m D (λ E more less. free_one rep m E counted more less) counted its low (nat_le 1 (hand rep D)) refl

  still_free : (others : List WireRep) (E F : List Deed) → ((other : WireRep) → hand other F ≤ hand other E) → AllByRecursion (OfCounted (λ r. hand r E ≡ 0)) others → AllByRecursion (OfCounted (λ r. hand r F ≡ 0)) others
  still_free [] E F less all = tt
  still_free (other ∷ others) E F less all = ((λ counted. let low = less other in let none = all.0 counted in omega (arith, low, none)), still_free others E F less all.1)

  free_next : (rep : WireRep) (reps : List WireRep) (D E : List Deed) → P E → AreFreed reps D E → (counted : Bool) → is_counted rep ≡ counted → Leads (λ F. P F × AreFreed (rep ∷ reps) D F) E
  free_next rep reps D E its freed false e = stays (λ F. P F × AreFreed (rep ∷ reps) D F) E (its, (freed.0, freed.1, ((λ counted. absurd (both_ways (is_counted rep) e counted)), freed.2)))
  free_next rep reps D E its freed true e =
      leads_as (λ F. P F × IsFreed rep E F) (λ F. P F × AreFreed (rep ∷ reps) D F) E
      (λ F more. (more.0, (more.1.0 ∙ freed.0, (λ other. let one = more.1.1 other in let two = freed.1 other in omega (arith, one, two)), ((λ counted. more.1.2), still_free reps E F more.1.1 freed.2))))
      (free_one rep (hand rep E) E e its (omega arith))

  free_all : (reps : List WireRep) (D : List Deed) → P D → Leads (λ E. P E × AreFreed reps D E) D
  free_all [] D its = stays (λ E. P E × AreFreed [] D E) D (its, (refl, (λ other. omega arith), tt))
  free_all (rep ∷ reps) D its = leads_on (λ E. P E × AreFreed reps D E) (λ E. P E × AreFreed (rep ∷ reps) D E) D (free_all reps D its) (λ E more. free_next rep reps D E more.0 more.1 (is_counted rep) refl)

  none_left : (D E : List Deed) → gains E ≡ gains D → AllByRecursion (OfCounted (λ rep. hand rep E ≡ 0)) (gains D) → IsEmptyHand E
  none_left D E same all rep counted = by_times (nat_le 1 (times rep (gains D))) refl
    where
      by_times : (some : Bool) → nat_le 1 (times rep (gains D)) ≡ some → hand rep E ≡ 0
      by_times true e = times_some (OfCounted (λ r. hand r E ≡ 0)) rep (gains D) all (leb-true 1 (times rep (gains D)) e) counted
      by_times false e = let none = leb-false 1 (times rep (gains D)) e in let came : times rep (gains E) ≡ times rep (gains D) = ap (times rep) same in omega (arith, none, came)

  -- all that is in the hand is given back
  pub release_all : (D : List Deed) → P D → Leads (λ E. P E × IsEmptyHand E) D
  release_all D its = leads_as (λ E. P E × AreFreed (gains D) D E) (λ E. P E × IsEmptyHand E) D (λ E more. (more.0, none_left D E more.1.0 more.1.2)) (free_all (gains D) D its)
