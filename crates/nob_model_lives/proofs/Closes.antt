-- The bridge begins: each open session closes.
use Rattle.std.proofs.Common.{◌≡◌, ℕ, zero, suc, ◌≤◌, not, Bool, true, false, cond, List, ◌∷◌, Some, Ok, Err, refl, sym, subst, ◌∙◌, arith, ◌⊎◌, inl, inr}
use Rattle.std.specs.Prelude.{◌==◌, nat_le}
use Rattle.std.proofs.lemmas.Bool.{eq-eqb, leb-true, leb-false, or_left, or_right, both_ways, not_from_false}
use Rattle.nob_ids.specs.declared.limits.Limits.{Limits}
use Rattle.nob_ids.specs.declared.reason.Reason.TheVariants.{Asked}
use Rattle.nob_model_session.specs.End.{is_open}
use Rattle.nob_model_session.specs.declared.refusal.EndRefusal.TheVariants as end_refusals
use Rattle.nob_model_types.specs.declared.event.Event.TheVariants as events
use Rattle.nob_model_types.specs.declared.refusal.Refusal.TheVariants as refusals
use Rattle.nob_model_types.specs.declared.deed.Deed.{Deed}
use Rattle.nob_model_types.specs.declared.deed.Deed.TheVariants as did
use Rattle.nob_model_types.specs.declared.deed.Cause.TheVariants as causes
use Rattle.nob_model_types.specs.Deeds.{deed_by}
use Rattle.nob_model_types.specs.Sessions.{is_peer, closed}
use Rattle.nob_model_history.specs.Histories.{history_of}
use Rattle.nob_model_history.specs.Ends.{calls_at}
use Rattle.nob_model_history.proofs.Inbox.{open_calls}
use Rattle.nob_model.specs.Right.{right_after, right_closing, closing_of}
use Rattle.nob_model.specs.Lists.{IsRightDeed, AreRightDeeds}
use Rattle.nob_model_lives.proofs.Leads.{Leads, stays, leads_by, leads_on}
use Rattle.nob_model_lives.proofs.Peers.{peer_low, peer_high}
use Rattle.nob_model_lives.proofs.Shown.{Shown, shown_by, closing_shows}

closed_by : (p : ℕ) (peer up : Bool) → peer ≡ true → up ≡ true → deed_by (events.Close p) (cond (not peer) (Err refusals.NoPeer) (closing_of (cond (not up) (Err end_refusals.Closed) (Ok (record { peer = p; reason = Asked }))))) ≡ Some (did.Closing p Asked causes.Asked)
closed_by p true true is_peer is_up = refl
closed_by p true false is_peer is_up = cc
closed_by p false up is_peer is_up = cc

-- an open session with a peer closes where it is asked to
pub close_right : (s n : ℕ) (limits : Limits) (p : ℕ) (D : List Deed) → is_peer s n p ≡ true → closed p D ≡ false → IsRightDeed s n limits (did.Closing p Asked causes.Asked) D
unfolding right_after right_closing
close_right s n limits p D peer up = (events.Close p, closed_by p (is_peer s n p) (is_open (calls_at p (history_of s n D))) peer (open_calls s n p D ∙ not_from_false (closed p D) up))

-- deeds are right, they show this, and the session with each peer has closed
pub record Rests (s n : ℕ) (limits : Limits) (x : Shown) (D : List Deed) : Type 0 where
  pub right : AreRightDeeds s n limits D
  pub shows : shown_by s n D ≡ x
  pub shut : (p : ℕ) → is_peer s n p ≡ true → closed p D ≡ true

-- the same for the peers up to one
record RestsUpTo (s n : ℕ) (limits : Limits) (x : Shown) (m : ℕ) (D : List Deed) : Type 0 where
  right : AreRightDeeds s n limits D
  shows : shown_by s n D ≡ x
  shut : (p : ℕ) → is_peer s n p ≡ true → p ≤ m → closed p D ≡ true

-- a number up to the next is the next or below
pub below_or_next : (p m : ℕ) → p ≤ suc m → (p ≤ m) ⊎ (p ≡ suc m)
below_or_next p m low = elim (nat_le p m) as (λ (b : Bool). nat_le p m ≡ b → (p ≤ m) ⊎ (p ≡ suc m)) [
  | true ↦ λ e. inl (leb-true p m e)
  | false ↦ λ e. inr (let above = leb-false p m e in omega (arith, low, above))
] refl

module _ (s n : ℕ) (limits : Limits) (x : Shown) where
  up_to_next : (m : ℕ) (E : List Deed) → ((p : ℕ) → is_peer s n p ≡ true → p ≤ m → closed p E ≡ true) → (is_peer s n (suc m) ≡ true → closed (suc m) E ≡ true) → (p : ℕ) → is_peer s n p ≡ true → p ≤ suc m → closed p E ≡ true
  up_to_next m E shut last p peer low = elim (below_or_next p m low) [
    | inl below ↦ shut p peer below
    | inr same ↦ subst (λ (q : ℕ). closed q E ≡ true) (sym same) (last (subst (λ (q : ℕ). is_peer s n q ≡ true) same peer))
  ]

  close_if : (m : ℕ) (D : List Deed) → RestsUpTo s n limits x m D → (peer shut : Bool) → is_peer s n (suc m) ≡ peer → closed (suc m) D ≡ shut → Leads (RestsUpTo s n limits x (suc m)) D
  close_if m D its false shut stranger e = stays (RestsUpTo s n limits x (suc m)) D (record { right = its.right; shows = its.shows; shut = up_to_next m D its.shut (λ peer. absurd (both_ways (is_peer s n (suc m)) stranger peer)) })
  close_if m D its true true peer e = stays (RestsUpTo s n limits x (suc m)) D (record { right = its.right; shows = its.shows; shut = up_to_next m D its.shut (λ again. e) })
  close_if m D its true false peer e =
      leads_by (RestsUpTo s n limits x (suc m)) (did.Closing (suc m) Asked causes.Asked) D refl record {
        right = (close_right s n limits (suc m) D peer e, its.right);
        shows = closing_shows s n (suc m) D ∙ its.shows;
        shut = up_to_next m (did.Closing (suc m) Asked causes.Asked ∷ D) (λ p is low. or_right (suc m == p) (closed p D) (its.shut p is low)) (λ again. or_left (suc m == suc m) (closed (suc m) D) (eq-eqb (suc m) (suc m) refl));
      }

  close_up_to : (m : ℕ) (D : List Deed) → AreRightDeeds s n limits D → shown_by s n D ≡ x → Leads (RestsUpTo s n limits x m) D
  close_up_to zero D right shows = stays (RestsUpTo s n limits x zero) D (record { right = right; shows = shows; shut = λ p peer none. absurd (let some = peer_low s n p peer in omega (arith, some, none)) })
  close_up_to (suc m) D right shows = leads_on (RestsUpTo s n limits x m) (RestsUpTo s n limits x (suc m)) D (close_up_to m D right shows) (λ E its. close_if m E its (is_peer s n (suc m)) (closed (suc m) E) refl refl)

  -- each session with a peer is closed
  pub close_all : (D : List Deed) → AreRightDeeds s n limits D → shown_by s n D ≡ x → Leads (Rests s n limits x) D
  close_all D right shows =
      leads_on (RestsUpTo s n limits x n) (Rests s n limits x) D (close_up_to n D right shows)
      (λ E its. stays (Rests s n limits x) E (record { right = its.right; shows = its.shows; shut = λ p peer. its.shut p peer (peer_high s n p peer) }))
