-- The sixth part of the bridge: a session opens anew, and where its number is passed over closes again.
use Rattle.std.proofs.Common.{◌≡◌, ℕ, zero, suc, ◌+◌, ◌≤◌, ◌&&◌, ◌||◌, not, max, Bool, true, false, cond, List, [], ◌∷◌, ◌++◌, length, filter, Some, Ok, refl, ap, ◌∙◌, arith}
use Rattle.std.specs.Prelude.{◌==◌, nat_lt}
use Rattle.std.specs.List.{list_any}
use Rattle.std.proofs.lemmas.Bool.{eq-eqb, or_from, ltb-true, not_from_true, false_from_ne_true}
use Rattle.nob_ids.specs.Names.{is_counted}
use Rattle.nob_ids.specs.declared.limits.Limits.{Limits}
use Rattle.nob_ids.specs.declared.reason.Reason.TheVariants.{Asked}
use Rattle.nob_ids.specs.declared.wire_rep.WireRep.{WireRep}
use Rattle.nob_model_session.specs.End.{last_session, seen}
use Rattle.nob_model_session.specs.declared.entry.EndEntry.{EndEntry}
use Rattle.nob_model_session.specs.declared.entry.EndEntry.TheVariants as ends
use Rattle.nob_model_types.specs.declared.event.Event.TheVariants as events
use Rattle.nob_model_types.specs.declared.answer.Answer.TheVariants as answers
use Rattle.nob_model_types.specs.declared.refusal.Refusal.TheVariants as refusals
use Rattle.nob_model_types.specs.declared.deed.Deed.{Deed}
use Rattle.nob_model_types.specs.declared.deed.Deed.TheVariants as did
use Rattle.nob_model_types.specs.declared.deed.Cause.TheVariants as causes
use Rattle.nob_model_types.specs.Deeds.{deed_by}
use Rattle.nob_model_types.specs.Sessions.{is_peer, closed, number}
use Rattle.nob_model_types.specs.Objects.{exports}
use Rattle.nob_model_work.specs.declared.work.Outstanding.{Outstanding}
use Rattle.nob_model_work.specs.Work.{work, work_after, with_loans, after_close}
use Rattle.nob_model_work.specs.Gifts.{gifts, gifts_of}
use Rattle.nob_model_history.specs.declared.transit.SentItem.{SentItem}
use Rattle.nob_model_history.specs.Histories.{history_of}
use Rattle.nob_model_history.specs.Ends.{calls_at}
use Rattle.nob_model_history.specs.Holds.{gains, lent_in, is_held}
use Rattle.nob_model_history.specs.Listing.{is_entered}
use Rattle.nob_model_history.specs.Transit.{pinned}
use Rattle.nob_model_history.proofs.Anew.{work_opened}
use Rattle.nob_model_history.proofs.Pinning.{bundles_closed, bundles_opened}
use Rattle.nob_model_acting.specs.Sending.{◌or_else◌, refuse_if, unless}
use Rattle.nob_model.specs.Opening.{is_owned_by, holds_any_of, carries_any_of, still_held, next_number, right_open}
use Rattle.nob_model.specs.Right.{right_after, calls_made, jobs_made}
use Rattle.nob_model.specs.Lists.{IsRightDeed}
use Rattle.nob_model.proofs.Reopening.{numbers_rise}
use Rattle.nob_model_lives.proofs.Closes.{close_right}
use Rattle.nob_model_lives.proofs.Leads.{Leads, stays, leads_on}
use Rattle.nob_model_lives.proofs.Shown.{Shown, shown_by, closing_shows}
use Rattle.nob_model_lives.proofs.Still.{IsStill, AreGone, still_unheld, still_pinned}
use Rattle.nob_model_lives.proofs.Withdraws.{Waits}

-- ---- an Open is right

opened_by : (p k : ℕ) (stranger up held past : Bool) → stranger ≡ false → up ≡ false → held ≡ false → past ≡ false → deed_by (events.Open p) (unless (refuse_if stranger refusals.NoPeer or_else refuse_if up refusals.StillOpen or_else refuse_if held refusals.StillHeld or_else refuse_if past refusals.Limit) (answers.Opened k)) ≡ Some (did.Open p k)
opened_by p k true up held past a b c d = cc
opened_by p k false true held past a b c d = cc
opened_by p k false false true past a b c d = cc
opened_by p k false false false true a b c d = cc
opened_by p k false false false false a b c d = refl

any_false : {X : Type 0} (test : X → Bool) (xs : List X) → ((x : X) → test x ≡ false) → list_any test xs ≡ false
any_false test [] none = refl
any_false test (x ∷ xs) none = or_from (test x) (list_any test xs) (none x) (any_false test xs none)

unowned : (own counted held : Bool) → (counted ≡ true → held ≡ false) → ((own && counted) && held) ≡ false
unowned false counted held none = refl
unowned true false held none = refl
unowned true true held none = none refl

-- nothing of a peer's is left at a space at rest
none_still_held : (s n : ℕ) (limits : Limits) (p : ℕ) (D : List Deed) → IsStill s n limits D → still_held s p (history_of s n D) ≡ false
none_still_held s n limits p D its =
    or_from (holds_any_of s p (history_of s n D) || list_any (is_owned_by p) (pinned (history_of s n D))) (list_any (carries_any_of p) (work s n D).waiting)
    (or_from (holds_any_of s p (history_of s n D)) (list_any (is_owned_by p) (pinned (history_of s n D)))
    (any_false (λ (rep : WireRep). is_owned_by p rep && is_held s rep (history_of s n D)) (gains D ++ lent_in s (work s n D)) (λ rep. unowned (rep.owner == p) (is_counted rep) (is_held s rep (history_of s n D)) (still_unheld s n limits D its rep)))
    (ap (list_any (is_owned_by p)) (still_pinned s n limits D its)))
    (ap (λ (W : Outstanding). list_any (carries_any_of p) W.waiting) its.none_outstanding)

-- a closed session with a peer opens at a space at rest, if there is a number
pub open_right : (s n : ℕ) (limits : Limits) (p : ℕ) (D : List Deed) → IsStill s n limits D → is_peer s n p ≡ true → closed p D ≡ true → next_number p (history_of s n D) ≤ last_session → IsRightDeed s n limits (did.Open p (next_number p (history_of s n D))) D
unfolding right_after right_open
open_right s n limits p D its peer shut room = (
  events.Open p,
  opened_by p (next_number p (history_of s n D)) (not (is_peer s n p)) (not (closed p D)) (still_held s p (history_of s n D)) (nat_lt last_session (next_number p (history_of s n D)))
      (not_from_true (is_peer s n p) peer) (not_from_true (closed p D) shut) (none_still_held s n limits p D its) (false_from_ne_true (nat_lt last_session (next_number p (history_of s n D))) (λ over. let above = ltb-true last_session (next_number p (history_of s n D)) over in omega (arith, above, room))),
)

-- ---- what it leaves

opened_unlisted : (now shut entered : Bool) → (not shut && entered) ≡ false → (not (cond now false shut) && cond now false entered) ≡ false
opened_unlisted true shut entered none = refl
opened_unlisted false shut entered none = none

-- a space at rest stays so by an Open
pub open_still : (s n : ℕ) (limits : Limits) (p k : ℕ) (D : List Deed) → IsRightDeed s n limits (did.Open p k) D → closed p D ≡ true → IsStill s n limits D → IsStill s n limits (did.Open p k ∷ D)
open_still s n limits p k D right shut its = record {
  right = (right, its.right);
  empty = its.empty;
  none_outstanding = work_opened s n p k D ∙ its.none_outstanding;
  none_listed = λ index c. opened_unlisted (p == c) (closed c D) (is_entered s index c D) (its.none_listed index c);
  none_pinned = bundles_opened s n p k D (numbers_rise s n limits (did.Open p k ∷ D) (right, its.right)) shut ∙ its.none_pinned;
}

-- the session with p is in another number
abbrev pub with_number : (p k : ℕ) → Shown → Shown
with_number p k x = record { indexes = x.indexes; calls = x.calls; jobs = x.jobs; given = λ q. cond (p == q) k (x.given q); heard = x.heard }

opens_unseen : (k : ℕ) (b : Bool) (calls : List EndEntry) → seen (cond b (ends.Reopen k (Ok tt) ∷ calls) calls) ≡ seen calls
opens_unseen k true calls = refl
opens_unseen k false calls = refl

pub open_shows : (s n p k : ℕ) (D : List Deed) → shown_by s n (did.Open p k ∷ D) ≡ with_number p k (shown_by s n D)
unfolding gifts gifts_of
open_shows s n p k D = λ i. record { indexes = length (exports D); calls = calls_made D; jobs = jobs_made D; given = λ q. cond (p == q) k (number q D); heard = λ q. opens_unseen k (p == q) (calls_at q (history_of s n D)) i }

closing_unlisted : (now shut entered : Bool) → (not shut && entered) ≡ false → (not (now || shut) && entered) ≡ false
closing_unlisted true shut entered none = refl
closing_unlisted false shut entered none = none

-- a space at rest stays so by a Close
pub close_still : (s n : ℕ) (limits : Limits) (p : ℕ) (D : List Deed) → IsRightDeed s n limits (did.Closing p Asked causes.Asked) D → IsStill s n limits D → IsStill s n limits (did.Closing p Asked causes.Asked ∷ D)
unfolding work_after with_loans after_close
close_still s n limits p D right its = record {
  right = (right, its.right);
  empty = its.empty;
  none_outstanding = ap (λ (W : Outstanding). with_loans s n (did.Closing p Asked causes.Asked ∷ D) (after_close p W)) its.none_outstanding;
  none_listed = λ index c. closing_unlisted (p == c) (closed c D) (is_entered s index c D) (its.none_listed index c);
  none_pinned = bundles_closed s n p Asked causes.Asked D ∙ ap (filter (λ (one : SentItem). not (one.to == p))) its.none_pinned;
}

-- ---- a number that is passed over

-- the number of the next session with p
abbrev pub next_of : Shown → ℕ → ℕ
next_of x p = max (x.given p + 1) (x.heard p)

pub next_shown : (s n p : ℕ) (x : Shown) (D : List Deed) → shown_by s n D ≡ x → next_number p (history_of s n D) ≡ next_of x p
next_shown s n p x D shows = ap (λ (one : Shown). next_of one p) shows

shut_again : (now before : Bool) → before ≡ true → (now || cond now false before) ≡ true
shut_again true before shut = refl
shut_again false before shut = shut

-- what was shown before and after numbers of the session with p were passed over
pub record IsPassed (p : ℕ) (x y : Shown) : Type 0 where
  pub indexes : y.indexes ≡ x.indexes
  pub calls : y.calls ≡ x.calls
  pub jobs : y.jobs ≡ x.jobs
  pub heard : (q : ℕ) → y.heard q ≡ x.heard q
  pub given : (q : ℕ) → (p == q) ≡ false → y.given q ≡ x.given q

-- after some passed numbers the next one is the wanted
abbrev pub ComesTo : (s n : ℕ) → Limits → (p wanted : ℕ) → Shown → List Deed → Type 0
ComesTo s n limits p wanted x E = (y : Shown) × IsPassed p x y × (next_of y p ≡ wanted) × Waits s n limits y E × AreGone s E

module _ (s n : ℕ) (limits : Limits) (p : ℕ) where
  -- one number is passed over
  pass_one : (x : Shown) (D : List Deed) → is_peer s n p ≡ true → next_of x p ≤ last_session → Waits s n limits x D → AreGone s D → Leads (λ E. Waits s n limits (with_number p (next_of x p) x) E × AreGone s E) D
  pass_one x D peer room its gone =
      let k : ℕ = next_number p (history_of s n D) in
      let next : k ≡ next_of x p = next_shown s n p x D its.shows in
      let opens_right = open_right s n limits p D its.still peer (its.shut p peer) (omega (arith, next, room)) in
      let up : closed p (did.Open p k ∷ D) ≡ false = ap (λ (b : Bool). cond b false (closed p D)) (eq-eqb p p refl) in
      let closes_right = close_right s n limits p (did.Open p k ∷ D) peer up in (
        did.Closing p Asked causes.Asked ∷ did.Open p k ∷ [],
        (refl, (refl, tt)),
        (
          record {
            still = close_still s n limits p (did.Open p k ∷ D) closes_right (open_still s n limits p k D opens_right (its.shut p peer) its.still);
            shows = closing_shows s n p (did.Open p k ∷ D) ∙ open_shows s n p k D ∙ ap (λ (m : ℕ). with_number p m (shown_by s n D)) next ∙ ap (with_number p (next_of x p)) its.shows;
            shut = λ q is. shut_again (p == q) (closed q D) (its.shut q is);
          },
          gone,
        ),
      )

  -- the next number is one higher then
  pub rises : (x : Shown) → next_of (with_number p (next_of x p) x) p ≡ next_of x p + 1
  rises x = ap (λ (b : Bool). max (cond b (next_of x p) (x.given p) + 1) (x.heard p)) (eq-eqb p p refl) ∙ above (x.given p) (x.heard p)
    where
      above : (given heard : ℕ) → max (max (given + 1) heard + 1) heard ≡ max (given + 1) heard + 1
      above given heard = omega arith

  passed_one : (k : ℕ) (x y : Shown) → IsPassed p (with_number p k x) y → IsPassed p x y
  passed_one k x y its = record { indexes = its.indexes; calls = its.calls; jobs = its.jobs; heard = its.heard; given = λ q other. its.given q other ∙ ap (λ (b : Bool). cond b k (x.given q)) other }

  -- numbers are passed over until the next one is the wanted
  pub pass_all : (more wanted : ℕ) (x : Shown) (D : List Deed) → is_peer s n p ≡ true → next_of x p + more ≡ wanted → wanted ≤ last_session → Waits s n limits x D → AreGone s D → Leads (ComesTo s n limits p wanted x) D
  pass_all zero wanted x D peer sum room its gone = stays (ComesTo s n limits p wanted x) D (x, (record { indexes = refl; calls = refl; jobs = refl; heard = λ q. refl; given = λ q other. refl }), omega (arith, sum), its, gone)
  pass_all (suc more) wanted x D peer sum room its gone =
      let k : ℕ = next_of x p in
      let rise = rises x in
      leads_on (λ E. Waits s n limits (with_number p k x) E × AreGone s E) (ComesTo s n limits p wanted x) D
      (pass_one x D peer (omega (arith, sum, room)) its gone)
      (λ E here. let rest = pass_all more wanted (with_number p k x) E peer (omega (arith, rise, sum)) room here.0 here.1 in
      (rest.0, rest.1, (rest.2.0, passed_one k x rest.2.0 rest.2.1, rest.2.2, rest.2.3, rest.2.4)))
