-- The fifth part of the bridge: an index is passed over. An object is exported, given back and withdrawn at once.
use Rattle.std.proofs.Common.{◌≡◌, ℕ, zero, suc, ◌+◌, ◌-◌, ◌≤◌, ◌<◌, ◌&&◌, ◌||◌, not, Bool, true, false, cond, List, [], ◌∷◌, length, filter, Some, refl, sym, ap, subst, ◌∙◌, arith}
use Rattle.std.specs.Prelude.{◌==◌, nat_le}
use Rattle.std.proofs.lemmas.List.{length-append}
use Rattle.std.proofs.lemmas.List.Folds.{list_any-append}
use Rattle.std.proofs.lemmas.Bool.{eqb-true, eqb-false, eq-eqb, ne_eqb, and_parts, or_from, leb-true, not_from_false, false_from_ne_true}
use Rattle.nob_ids.specs.Names.{is_same, is_counted}
use Rattle.nob_ids.specs.declared.limits.Limits.{Limits}
use Rattle.nob_ids.specs.declared.wire_rep.WireRep.{WireRep}
use Rattle.nob_model_session.specs.End.{seen}
use Rattle.nob_model_types.specs.declared.event.Event.TheVariants as events
use Rattle.nob_model_types.specs.declared.answer.Answer.TheVariants as answers
use Rattle.nob_model_types.specs.declared.refusal.Refusal.TheVariants as refusals
use Rattle.nob_model_types.specs.declared.deed.Deed.{Deed}
use Rattle.nob_model_types.specs.declared.deed.Deed.TheVariants as did
use Rattle.nob_model_types.specs.Deeds.{deed_by}
use Rattle.nob_model_types.specs.Sessions.{number}
use Rattle.nob_model_types.specs.Objects.{exports, is_exported, is_withdrawn, is_live, live}
use Rattle.nob_model_work.specs.declared.work.Outstanding.{Outstanding}
use Rattle.nob_model_work.specs.Work.{work_after, with_loans}
use Rattle.nob_model_work.specs.Gifts.{gifts, gifts_of}
use Rattle.nob_model_history.specs.Histories.{history_of}
use Rattle.nob_model_history.specs.Ends.{calls_at}
use Rattle.nob_model_history.specs.Holds.{times, gains, releases, hand}
use Rattle.nob_model_history.proofs.Dirtying.{same_self}
use Rattle.nob_model_history.proofs.Turning.{same_ref}
use Rattle.nob_model_acting.specs.Sending.{refuse_if, unless}
use Rattle.nob_model.specs.Right.{most_objects, last_number, right_after, right_export, own_ref, calls_made, jobs_made}
use Rattle.nob_model.specs.Lists.{IsRightDeed, AreRightDeeds}
use Rattle.nob_model.proofs.Orderly.{released}
use Rattle.nob_model_holdings.proofs.Holdings.{hand_held}
use Rattle.nob_model_holdings.proofs.Alive.{held_alive}
use Rattle.nob_model_lives.proofs.Leads.{Leads, stays, leads_on}
use Rattle.nob_model_lives.proofs.Releases.{IsEmptyHand, release_right, release_one}
use Rattle.nob_model_lives.proofs.Shown.{Shown, shown_by, release_shows, withdraw_shows}
use Rattle.nob_model_lives.proofs.Still.{IsStill, AreGone, gone_live}
use Rattle.nob_model_lives.proofs.Withdraws.{Waits, withdraw_right, withdraw_still}

-- one index more
abbrev pub one_index : Shown → Shown
one_index x = record { indexes = x.indexes + 1; calls = x.calls; jobs = x.jobs; given = x.given; heard = x.heard }

-- so many indexes more
abbrev pub more_indexes : ℕ → Shown → Shown
more_indexes zero x = x
more_indexes (suc m) x = more_indexes m (one_index x)

exported_by : (rep : WireRep) (full : Bool) → full ≡ false → deed_by events.Export (unless (refuse_if full refusals.Limit) (answers.Exported rep)) ≡ Some (did.Export rep)
exported_by rep true room = cc
exported_by rep false room = refl

-- a count below a bound
pub not_above : (bound count : ℕ) → count < bound → nat_le bound count ≡ false
not_above bound count low = false_from_ne_true (nat_le bound count) (λ over. let above = leb-true bound count over in omega (arith, above, low))

module _ (s n : ℕ) (limits : Limits) (D : List Deed) where
  -- where no object is live the next index is given, if there is one
  export_right : AreGone s D → length (exports D) < last_number → IsRightDeed s n limits (did.Export (own_ref s (length (exports D) + 1))) D
  unfolding right_after right_export
  export_right gone room = (
    events.Export,
    exported_by (own_ref s (length (exports D) + 1)) (nat_le most_objects (length (live s D)) || nat_le last_number (length (exports D)))
        (or_from (nat_le most_objects (length (live s D))) (nat_le last_number (length (exports D))) (ap (λ (reps : List WireRep). nat_le most_objects (length reps)) (gone_live s D gone)) (not_above last_number (length (exports D)) room)),
  )

  export_shows : (rep : WireRep) → shown_by s n (did.Export rep ∷ D) ≡ one_index (shown_by s n D)
  unfolding gifts gifts_of
  export_shows rep = λ i. record { indexes = length-append (exports D) (rep ∷ []) i; calls = calls_made D; jobs = jobs_made D; given = λ p. number p D; heard = λ p. seen (calls_at p (history_of s n D)) }

  -- it is in the hand once
  export_hand : (rep : WireRep) → times rep (releases D) ≤ times rep (gains D) → hand rep D ≡ 0 → hand rep (did.Export rep ∷ D) ≡ 1
  export_hand rep most none =
      ap (λ (b : Bool). length (cond b (rep ∷ filter (is_same rep) (gains D)) (filter (is_same rep) (gains D))) - times rep (releases D)) (same_self rep)
      ∙ once_more (times rep (gains D)) (times rep (releases D)) most none
    where
      once_more : (gained gone : ℕ) → gone ≤ gained → gained - gone ≡ 0 → suc gained - gone ≡ 1
      once_more gained gone most none = omega (arith, most, none)

  -- and after a Release no counted reference is
  export_empty : (rep : WireRep) → times rep (releases D) ≤ times rep (gains D) → IsEmptyHand D → is_counted rep ≡ true → IsEmptyHand (did.Release rep ∷ did.Export rep ∷ D)
  export_empty rep most empty counted other is = by_same (is_same other rep) refl
    where
      by_same : (b : Bool) → is_same other rep ≡ b → hand other (did.Release rep ∷ did.Export rep ∷ D) ≡ 0
      by_same true e =
          subst (λ (r : WireRep). hand r (did.Release rep ∷ did.Export rep ∷ D) ≡ 0) (sym (same_ref other rep e))
          (let one = export_hand rep most (empty rep counted) in let less = release_one rep (did.Export rep ∷ D) in omega (arith, one, less))
      by_same false e =
          ap (λ (b : Bool). length (cond b (rep ∷ filter (is_same other) (gains D)) (filter (is_same other) (gains D))) - length (cond b (rep ∷ filter (is_same other) (releases D)) (filter (is_same other) (releases D)))) e
          ∙ empty other is

  -- after the Withdraw no object is live
  export_gone : (index : ℕ) → AreGone s D → (x : ℕ) → is_live s x (did.Withdraw index ∷ did.Release (own_ref s index) ∷ did.Export (own_ref s index) ∷ D) ≡ false
  export_gone index gone x =
      ap (λ (b : Bool). b && not (index == x || is_withdrawn x D)) (list_any-append (is_same (record { owner = s; index = x })) (exports D) (own_ref s index ∷ []))
      ∙ step (index == x) refl (is_exported s x D) (is_withdrawn x D) (gone x)
    where
      other : (index == x) ≡ false → is_same (record { owner = s; index = x }) (own_ref s index) ≡ false
      other e = false_from_ne_true (is_same (record { owner = s; index = x }) (own_ref s index)) (λ same. eqb-false index x e (sym (eqb-true x index (and_parts (s == s) (x == index) same).1)))

      step : (now : Bool) → (index == x) ≡ now → (given before : Bool) → (given && not before) ≡ false → ((given || (is_same (record { owner = s; index = x }) (own_ref s index) || false)) && not (now || before)) ≡ false
      step true e given before none = gone_by (given || (is_same (record { owner = s; index = x }) (own_ref s index) || false))
        where
          gone_by : (b : Bool) → (b && false) ≡ false
          gone_by true = refl
          gone_by false = refl
      step false e given before none = ap (λ (b : Bool). (given || (b || false)) && not before) (other e) ∙ still given before none
        where
          still : (given before : Bool) → (given && not before) ≡ false → ((given || false) && not before) ≡ false
          still true before none = none
          still false before none = refl

module _ (s n : ℕ) (limits : Limits) where
  -- a space at rest stays so by an Export that is given back at once
  export_still : (rep : WireRep) (D : List Deed) → IsRightDeed s n limits (did.Export rep) D → IsRightDeed s n limits (did.Release rep) (did.Export rep ∷ D) → is_counted rep ≡ true → IsStill s n limits D → IsStill s n limits (did.Release rep ∷ did.Export rep ∷ D)
  unfolding work_after with_loans gifts gifts_of
  export_still rep D exports_right releases_right counted its = record {
    right = (releases_right, (exports_right, its.right));
    empty = export_empty s n limits D rep (released s n limits D its.right rep counted) its.empty counted;
    none_outstanding = ap (λ (W : Outstanding). with_loans s n (did.Release rep ∷ did.Export rep ∷ D) (with_loans s n (did.Export rep ∷ D) W)) its.none_outstanding;
    none_listed = its.none_listed;
    none_pinned = its.none_pinned;
  }

  -- one index is passed over
  pub skip_one : (x : Shown) (D : List Deed) → Waits s n limits x D → AreGone s D → x.indexes < last_number → Leads (λ E. Waits s n limits (one_index x) E × AreGone s E) D
  skip_one x D its gone room =
      let index : ℕ = length (exports D) + 1 in
      let rep : WireRep = own_ref s index in
      let all : length (exports D) ≡ x.indexes = ap (λ (one : Shown). one.indexes) its.shows in
      let counted : is_counted rep ≡ true = not_from_false (index == 0) (ne_eqb index 0 (λ none. omega (arith, none))) in
      let exports_right : IsRightDeed s n limits (did.Export rep) D = export_right s n limits D gone (omega (arith, all, room)) in
      let one : hand rep (did.Export rep ∷ D) ≡ 1 = export_hand s n limits D rep (released s n limits D its.still.right rep counted) (its.still.empty rep counted) in
      let both : AreRightDeeds s n limits (did.Export rep ∷ D) = (exports_right, its.still.right) in
      let some : 1 ≤ hand rep (did.Export rep ∷ D) = omega (arith, one) in
      let releases_right : IsRightDeed s n limits (did.Release rep) (did.Export rep ∷ D) = release_right s n limits rep (did.Export rep ∷ D) both counted some in
      let still : IsStill s n limits (did.Release rep ∷ did.Export rep ∷ D) = export_still rep D exports_right releases_right counted its.still in
      let alive : is_live s index (did.Release rep ∷ did.Export rep ∷ D) ≡ true = held_alive s n limits rep (did.Export rep ∷ D) both counted (eq-eqb s s refl) (hand_held s n limits rep (did.Export rep ∷ D) both some) in
      let withdraws_right = withdraw_right s n limits index (did.Release rep ∷ did.Export rep ∷ D) still alive in (
        did.Withdraw index ∷ did.Release rep ∷ did.Export rep ∷ [],
        (refl, (refl, (refl, tt))),
        (
          record {
            still = withdraw_still s n limits index (did.Release rep ∷ did.Export rep ∷ D) withdraws_right still;
            shows = withdraw_shows s n index (did.Release rep ∷ did.Export rep ∷ D) ∙ release_shows s n rep (did.Export rep ∷ D) ∙ export_shows s n limits D rep ∙ ap one_index its.shows;
            shut = its.shut;
          },
          export_gone s n limits D index gone,
        ),
      )

  -- so many are passed over
  pub skip_all : (m : ℕ) (x : Shown) (D : List Deed) → Waits s n limits x D → AreGone s D → x.indexes + m ≤ last_number → Leads (λ E. Waits s n limits (more_indexes m x) E × AreGone s E) D
  skip_all zero x D its gone room = stays (λ E. Waits s n limits x E × AreGone s E) D (its, gone)
  skip_all (suc m) x D its gone room =
      leads_on (λ E. Waits s n limits (one_index x) E × AreGone s E) (λ E. Waits s n limits (more_indexes m (one_index x)) E × AreGone s E) D
      (skip_one x D its gone (omega (arith, room)))
      (λ E more. skip_all m (one_index x) E more.0 more.1 (omega (arith, room)))
