-- A space at rest: nothing is outstanding, in the hand, listed or pinned.
use Rattle.std.proofs.Common.{◌≡◌, ℕ, ◌+◌, ◌≤◌, ◌&&◌, not, Bool, true, false, cond, List, [], ◌∷◌, length, filter, flat_map, refl, sym, ap, ◌∙◌, arith}
use Rattle.std.specs.Prelude.{◌==◌, nat_le}
use Rattle.std.specs.List.{list_any}
use Rattle.std.proofs.lemmas.Bool.{eqb-true, eq-eqb, and_parts, and_from, leb-true, or_left, or_right, both_ways, false_from_ne_true}
use Rattle.nob_ids.specs.Names.{is_same, is_counted}
use Rattle.nob_ids.specs.declared.limits.Limits.{Limits}
use Rattle.nob_ids.specs.declared.wire_rep.WireRep.{WireRep}
use Rattle.nob_item.specs.Kinds.{counted_in}
use Rattle.nob_model_types.specs.declared.deed.Deed.{Deed}
use Rattle.nob_model_types.specs.Sessions.{is_peer, closed}
use Rattle.nob_model_types.specs.Objects.{exports, is_exported, is_withdrawn, is_live, live}
use Rattle.nob_model_work.specs.declared.work.Outstanding.{Outstanding}
use Rattle.nob_model_work.specs.Work.{no_work, work}
use Rattle.nob_model_history.specs.Histories.{history_of}
use Rattle.nob_model_history.specs.Holds.{times, hand, lent_in, holds, is_held}
use Rattle.nob_model_history.specs.Listing.{is_listed, is_any_listed}
use Rattle.nob_model_history.specs.Transit.{bundles, pinned, pins}
use Rattle.nob_model_history.specs.declared.transit.SentItem.{SentItem}
use Rattle.nob_model_history.proofs.Listed.{any_listed}
use Rattle.nob_model.specs.Lists.{AreRightDeeds}
use Rattle.nob_model.proofs.Orderly.{exported, holds_law}
use Rattle.nob_model_lives.proofs.Peers.{shut_unlisted, shut_unpinned}
use Rattle.nob_model_lives.proofs.Releases.{IsEmptyHand}
use Rattle.nob_model_lives.proofs.Shown.{Shown}
use Rattle.nob_model_lives.proofs.Takes.{AreTaken, none_outstanding}

-- deeds are right, and nothing is outstanding, in the hand, listed or pinned
pub record IsStill (s n : ℕ) (limits : Limits) (D : List Deed) : Type 0 where
  pub right : AreRightDeeds s n limits D
  pub empty : IsEmptyHand D
  pub none_outstanding : work s n D ≡ no_work
  pub none_listed : (index c : ℕ) → is_listed s index c D ≡ false
  pub none_pinned : bundles (history_of s n D) ≡ []

-- the session with each peer has closed
abbrev pub AreShut : (s n : ℕ) → List Deed → Type 0
AreShut s n D = (p : ℕ) → is_peer s n p ≡ true → closed p D ≡ true

-- so it is once all is taken
pub taken_still : (s n : ℕ) (limits : Limits) (x : Shown) (D : List Deed) → AreTaken s n limits x D → IsStill s n limits D
taken_still s n limits x D its = record {
  right = its.0.0.right;
  empty = its.1;
  none_outstanding = none_outstanding s n limits x D its;
  none_listed = shut_unlisted s n limits D its.0.0.right its.0.0.shut;
  none_pinned = shut_unpinned s n D its.0.0.shut;
}

-- ---- what isn't there

none_held_by : (held hand lent : ℕ) → held ≡ hand + lent → hand ≡ 0 → lent ≡ 0 → not (held == 0) ≡ false
none_held_by held hand lent law one two = ap not (eq-eqb held 0 (omega (arith, law, one, two)))

-- no counted reference is held
pub still_unheld : (s n : ℕ) (limits : Limits) (D : List Deed) → IsStill s n limits D → (rep : WireRep) → is_counted rep ≡ true → is_held s rep (history_of s n D) ≡ false
still_unheld s n limits D its rep counted =
    none_held_by (holds s rep (history_of s n D)) (hand rep D) (times rep (lent_in s (work s n D))) (holds_law s n limits D its.right rep) (its.empty rep counted) (ap (λ (W : Outstanding). times rep (lent_in s W)) its.none_outstanding)

-- none has pins
pub still_pinned : (s n : ℕ) (limits : Limits) (D : List Deed) → IsStill s n limits D → pinned (history_of s n D) ≡ []
still_pinned s n limits D its = ap (flat_map (λ (one : SentItem). counted_in one.item)) its.none_pinned

pub still_unpinned : (s n : ℕ) (limits : Limits) (D : List Deed) → IsStill s n limits D → (rep : WireRep) → pins rep (history_of s n D) ≡ 0
still_unpinned s n limits D its rep = ap (times rep) (still_pinned s n limits D its)

-- nobody is listed
pub still_unlisted : (s n : ℕ) (limits : Limits) (D : List Deed) → IsStill s n limits D → (index : ℕ) → is_any_listed s index D ≡ false
still_unlisted s n limits D its index =
    false_from_ne_true (is_any_listed s index D) (λ some.
    let client = any_listed s index D some in
    both_ways (is_listed s index client.0 D) (its.none_listed index client.0) client.1)

-- ---- objects

-- no object is live
abbrev pub AreGone : ℕ → List Deed → Type 0
AreGone s D = (index : ℕ) → is_live s index D ≡ false

-- an index that wasn't given is of no live object
pub live_given : (s n : ℕ) (limits : Limits) (D : List Deed) → AreRightDeeds s n limits D → (index : ℕ) → is_live s index D ≡ true → (1 ≤ index) × (index ≤ length (exports D))
live_given s n limits D right index alive =
    let given = and_parts (nat_le 1 index) (nat_le index (length (exports D))) (sym (exported s n limits D right index) ∙ (and_parts (is_exported s index D) (not (is_withdrawn index D)) alive).0) in
    (leb-true 1 index given.0, leb-true index (length (exports D)) given.1)

none_kept : (b : Bool) (rep : WireRep) (kept : List WireRep) → b ≡ false → kept ≡ [] → cond b (rep ∷ kept) kept ≡ []
none_kept true rep kept not none = cc
none_kept false rep kept not none = none

-- where no object is live none is listed among the live ones
gone_among : (s : ℕ) (D : List Deed) → AreGone s D → (reps : List WireRep) → ((rep : WireRep) → list_any (is_same rep) reps ≡ true → list_any (is_same rep) (exports D) ≡ true) → filter (λ (rep : WireRep). rep.owner == s && not (is_withdrawn rep.index D)) reps ≡ []
gone_among s D gone [] among = refl
gone_among s D gone (rep ∷ reps) among =
    none_kept (rep.owner == s && not (is_withdrawn rep.index D)) rep (filter (λ (r : WireRep). r.owner == s && not (is_withdrawn r.index D)) reps)
    (false_from_ne_true (rep.owner == s && not (is_withdrawn rep.index D)) (λ stays.
    let parts = and_parts (rep.owner == s) (not (is_withdrawn rep.index D)) stays in
    let own : is_same (record { owner = s; index = rep.index }) rep ≡ true = and_from (s == rep.owner) (rep.index == rep.index) (eq-eqb s rep.owner (sym (eqb-true rep.owner s parts.0))) (eq-eqb rep.index rep.index refl) in
    both_ways (is_live s rep.index D) (gone rep.index) (and_from (is_exported s rep.index D) (not (is_withdrawn rep.index D)) (among (record { owner = s; index = rep.index }) (or_left _ (list_any (is_same (record { owner = s; index = rep.index })) reps) own)) parts.1)))
    (gone_among s D gone reps (λ r there. among r (or_right (is_same r rep) (list_any (is_same r) reps) there)))

pub gone_live : (s : ℕ) (D : List Deed) → AreGone s D → live s D ≡ []
gone_live s D gone = gone_among s D gone (exports D) (λ rep there. there)
