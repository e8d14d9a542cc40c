-- A space whose sessions have all closed has no pins.
use Rattle.std.proofs.Common.{◌≡◌, ℕ, ◌+◌, ◌<◌, Bool, true, false, cond, not, ◌&&◌, ◌||◌, ◌==◌, List, [], ◌∷◌, ◌++◌, map, filter, refl, sym, ap, subst, ◌∙◌, arith}
use Rattle.std.specs.List.{AllByRecursion, sum_by}
use Rattle.std.proofs.lemmas.Bool.Decides.{nat_tests, Decides-eqb}
use Rattle.std.proofs.lemmas.List.Sums.{sum_by-cons}
use Rattle.nob_item.specs.Kinds.{counted_in}
use Rattle.nob_pins.specs.Bundles.{Pinned}
use Rattle.nob_ids.specs.declared.reason.Reason.TheVariants.{Asked}
use Rattle.nob_model_types.specs.declared.deed.Cause.TheVariants as causes
use Rattle.nob_model_types.specs.declared.deed.Deed.{Deed}
use Rattle.nob_model_types.specs.declared.deed.Deed.TheVariants.{Closing}
use Rattle.nob_model_types.specs.Sessions.{is_peer, closed}
use Rattle.nob_model_types.specs.declared.here.Here.{Here}
use Rattle.nob_model_work.specs.declared.gifts.Gift.{Gift}
use Rattle.nob_model_work.specs.Gifts.{gifts, gifts_of}
use Rattle.nob_model_work.specs.Work.{work}
use Rattle.nob_model_history.specs.declared.transit.SentItem.{SentItem}
use Rattle.nob_model_history.specs.Histories.{history_of}
use Rattle.nob_model_history.specs.Transit.{sent, next_sent, with_gifts, bundles, is_of_present, is_pinned, is_settled, is_some_of}
use Rattle.nob_space_state.specs.Closing.{Closes, IsShutBelow}
use Rattle.nob_space_state.specs.Looks.{has_closed}
use Rattle.nob_space_state.specs.declared.parts.Parts.{Parts}
use Rattle.nob_space_state.specs.Stands.{IsState, bundle}
use Rattle.nob_space_state.proofs.Closings.{close_of_open}
use Rattle.nob_space_state.proofs.Orderly.{close_is}
use Rattle.nob_space_state.proofs.Running.{all_push}
use Rattle.nob_space_state.proofs.Told.{closed_there}

-- what a filter keeps passes its test
kept_pass : {X : Type 0} (test : X → Bool) (xs : List X) → AllByRecursion (λ (x : X). test x ≡ true) (filter test xs)
kept_pass test [] = tt
kept_pass {X} test (x ∷ xs) = elim (test x) as (λ b. test x ≡ b → AllByRecursion (λ (y : X). test y ≡ true) (cond b (x ∷ filter test xs) (filter test xs))) [ true ↦ λ is. (is, kept_pass test xs) | false ↦ λ _. kept_pass test xs ] refl

-- what nothing passes keeps nothing
none_kept : {X : Type 0} (test : X → Bool) (xs : List X) → AllByRecursion (λ (x : X). test x ≡ false) xs → filter test xs ≡ []
none_kept test [] all = refl
none_kept test (x ∷ xs) all = ap (λ b. cond b (x ∷ filter test xs) (filter test xs)) all.0 ∙ none_kept test xs all.1

module _ (s n : ℕ) where
  gifts_to_peers : (D : List Deed) (items : List SentItem) (gs : List Gift) → AllByRecursion (λ (one : SentItem). is_peer s n one.to ≡ true) items → AllByRecursion (λ (gift : Gift). is_peer s n gift.to ≡ true) gs → AllByRecursion (λ (one : SentItem). is_peer s n one.to ≡ true) (with_gifts D items gs)
  gifts_to_peers D items [] all more = all
  gifts_to_peers D items (gift ∷ gs) all more = gifts_to_peers D (items ++ next_sent D items gift ∷ []) gs (all_push (λ (one : SentItem). is_peer s n one.to ≡ true) items (next_sent D items gift) all more.0) more.1

  -- all that was sent went to peers
  sent_to_peers : (D : List Deed) → AllByRecursion (λ (one : SentItem). is_peer s n one.to ≡ true) (sent (history_of s n D))
  unfolding gifts
  sent_to_peers [] = tt
  sent_to_peers (deed ∷ D) = gifts_to_peers D (sent (history_of s n D)) (gifts s n deed D (work s n D)) (sent_to_peers D) (kept_pass (λ (gift : Gift). is_peer s n gift.to) (gifts_of s n deed D (work s n D)))

  unpinned : (some present settled : Bool) → (some && present && not settled && not true) ≡ false
  unpinned true true true = refl
  unpinned true true false = refl
  unpinned true false settled = refl
  unpinned false present settled = refl

  none_pinned : (D : List Deed) → ((p : ℕ) → is_peer s n p ≡ true → closed p D ≡ true) → (items : List SentItem) → AllByRecursion (λ (one : SentItem). is_peer s n one.to ≡ true) items → AllByRecursion (λ (one : SentItem). is_pinned D one ≡ false) items
  none_pinned D all_closed [] all = tt
  none_pinned D all_closed (one ∷ items) all = (ap (λ b. is_some_of (counted_in one.item) && is_of_present D one && not (is_settled one.to one.number D) && not b) (all_closed one.to all.0) ∙ unpinned (is_some_of (counted_in one.item)) (is_of_present D one) (is_settled one.to one.number D), none_pinned D all_closed items all.1)

  -- where all sessions have closed nothing has pins
  no_bundles : (D : List Deed) → ((p : ℕ) → is_peer s n p ≡ true → closed p D ≡ true) → bundles (history_of s n D) ≡ []
  no_bundles D all_closed = none_kept (is_pinned D) (sent (history_of s n D)) (none_pinned D all_closed (sent (history_of s n D)) (sent_to_peers D))

-- a list without a sum of ones is empty
no_ones : (xs : List Pinned) → sum_by (λ (one : Pinned). 1) xs ≡ 0 → xs ≡ []
no_ones [] e = refl
no_ones (x ∷ xs) e = let more = sum_by-cons (λ (one : Pinned). 1) x xs in absurd (omega (arith, e, more))

-- so the pins of a space that is shut are all spent
pub shut_unpinned : (parts : Parts) → IsShutBelow (parts.here.n + 1) parts → parts.pins.bundles ≡ []
shut_unpinned parts shut =
    let s = parts.here.space in
    let n = parts.here.n in
    let all_closed : (p : ℕ) → is_peer s n p ≡ true → closed p shut.1 ≡ true = λ p peer. shut.3 p peer (grind (arith, nat_tests, peer)) in
    no_ones parts.pins.bundles (shut.2.pins (λ (one : Pinned). 1) ∙ ap (λ (items : List SentItem). sum_by (λ (one : Pinned). 1) (map bundle items)) (no_bundles s n shut.1 all_closed))

-- ---- one session after the other

-- a space that is no peer, or whose session has closed
pub below_more : {p : ℕ} (parts : Parts) → (is_peer parts.here.space parts.here.n p ≡ true → has_closed parts.sessions.items p ≡ true) → IsShutBelow p parts → IsShutBelow (p + 1) parts
below_more {p} parts here shut = (
  shut.0,
  shut.1,
  shut.2,
  λ q peer low.
      elim (q == p) as (λ b. q == p ≡ b → closed q shut.1 ≡ true) [
        | true ↦ λ same. let is : q ≡ p = (Decides-eqb q p).0 same in subst (λ k. closed k shut.1 ≡ true) (sym is) (sym (closed_there shut.2 p) ∙ here (subst (λ k. is_peer parts.here.space parts.here.n k ≡ true) is peer))
        | false ↦ λ other. shut.3 q peer (grind (arith, nat_tests, low, other))
      ] refl,
)

-- a session that closes now
pub below_closed : {p : ℕ} (old new : Parts) → new.here ≡ old.here → is_peer old.here.space old.here.n p ≡ true → has_closed old.sessions.items p ≡ false → Closes p Asked causes.Asked old new → IsShutBelow p old → IsShutBelow (p + 1) new
below_closed {p} old new same peer still closes shut =
    let D : List Deed = shut.1 in (
      shut.0,
      Closing p Asked causes.Asked ∷ D,
      closes shut.0 D shut.2 (close_is old.here.space old.here.n shut.0 D p Asked (close_of_open shut.2 p peer still)),
      λ q its low. let other : is_peer old.here.space old.here.n q ≡ true = subst (λ (here : Here). is_peer here.space here.n q ≡ true) same its in elim (p == q) as (λ b. p == q ≡ b → (b || closed q D) ≡ true) [
        | true ↦ λ _. refl
        | false ↦ λ differs. shut.3 q other (grind (arith, nat_tests, low, differs))
      ] refl,
    )

-- at first no session needs to have closed
pub below_first : (parts : Parts) → IsState parts → IsShutBelow 1 parts
below_first parts stands = (stands.0, stands.1, stands.2, λ q peer low. absurd (no_peer_below parts.here.space parts.here.n q peer low))
  where
    no_peer_below : (s n q : ℕ) → is_peer s n q ≡ true → q < 1 → ⊥
    no_peer_below s n q peer low = grind (arith, nat_tests, peer, low)
