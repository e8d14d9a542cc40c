-- A Settle that comes next has no fault.
use Rattle.std.proofs.Common.{◌≡◌, ℕ, zero, suc, ◌+◌, ◌-◌, ◌&&◌, Bool, true, false, cond, List, [], ◌∷◌, ◌++◌, length, filter, Option, Some, None, refl, sym, ap, subst, ◌∙◌}
use Rattle.std.specs.Prelude.{◌==◌}
use Rattle.std.specs.List.{AllByRecursion, slice_get}
use Rattle.std.proofs.lemmas.Bool.{eq-eqb, and_from, not_from_false, false_from_ne_true}
use Rattle.std.proofs.lemmas.List.Elements.{filter_map-append}
use Rattle.nob_ids.specs.declared.limits.Limits.{Limits}
use Rattle.nob_item.specs.declared.item.Item.{Item}
use Rattle.nob_item.specs.declared.item.Item.TheVariants as items
use Rattle.nob_item.specs.Kinds.{counted_in}
use Rattle.nob_model_types.specs.declared.entry.Entry.{Entry}
use Rattle.nob_model_types.specs.declared.deed.Deed.{Deed}
use Rattle.nob_model_types.specs.Sessions.{closed, number}
use Rattle.nob_model_history.specs.declared.transit.SentItem.{SentItem}
use Rattle.nob_model_history.specs.Transit.{is_sent_to, is_some_of, is_settled, is_pinned, has_bundle, sent}
use Rattle.nob_model_journal.specs.Journals.{deeds_at, history_at, closed_at, number_at, sent_to, acted_in, acted_from}
use Rattle.nob_model_journal.specs.Runs.{WorldRun}
use Rattle.nob_model_invariant.specs.Typed.{AreOfTypes}
use Rattle.nob_model_invariant.specs.Asking.{items_among}
use Rattle.nob_model_invariant.specs.Settles.{settles_among, settle_in, AreOnce, IsCarrying}
use Rattle.nob_model_holdings.proofs.Lists.{all_split, place_in_whole, some_same}
use Rattle.nob_model_invariant.proofs.Listings.{items_split}
use Rattle.nob_model_invariant.proofs.Order.{ActsNow, in_order, in_order_now}
use Rattle.nob_model_invariant.proofs.Places.{IsNext, rest_next}
use Rattle.nob_model_invariant.proofs.SafetyPoints.{settlements}
use Rattle.nob_model_invariant.proofs.Bundles.{never_twice, settled_in}
use Rattle.nob_model_invariant.proofs.Sent.{IsSentAs, sent_as}

none_some : {X : Type 0} (x : X) → None ≡ Some x → ⊥
none_some x e = cc

some_more : {X : Type 0} (test : X → Bool) (a : Bool) (y : X) (kept : List X) → is_some_of (filter test kept) ≡ true → is_some_of (filter test (cond a (y ∷ kept) kept)) ≡ true
some_more test true y kept some = elim (test y) as (λ (b : Bool). is_some_of (cond b (y ∷ filter test kept) (filter test kept)) ≡ true) [ true ↦ refl | false ↦ some ]
some_more test false y kept some = some

here : {X : Type 0} (test : X → Bool) (a : Bool) (y : X) (kept : List X) → a ≡ true → test y ≡ true → is_some_of (filter test (cond a (y ∷ kept) kept)) ≡ true
here test true y kept is passes = ap (λ (b : Bool). is_some_of (cond b (y ∷ filter test kept) (filter test kept))) passes
here test false y kept is passes = cc

-- what stands at a place where some are left, and passes two tests, is left by both
some_passes : {X : Type 0} (among first test : X → Bool) (xs : List X) (place : ℕ) (x : X) → slice_get (filter among xs) place ≡ Some x → first x ≡ true → test x ≡ true → is_some_of (filter test (filter first xs)) ≡ true
some_passes among first test [] place x at passes is = absurd (none_some x at)
some_passes among first test (y ∷ xs) place x at passes is = by (λ place at. some_passes among first test xs place x at passes is) (among y) place at
  where
    by : ((place : ℕ) → slice_get (filter among xs) place ≡ Some x → is_some_of (filter test (filter first xs)) ≡ true) → (b : Bool) → (place : ℕ) → slice_get (cond b (y ∷ filter among xs) (filter among xs)) place ≡ Some x → is_some_of (filter test (cond (first y) (y ∷ filter first xs) (filter first xs))) ≡ true
    by rest true zero at = here test (first y) y (filter first xs) (ap first (some_same y x at) ∙ passes) (ap test (some_same y x at) ∙ is)
    by rest true (suc place) at = some_more test (first y) y (filter first xs) (rest place at)
    by rest false place at = some_more test (first y) y (filter first xs) (rest place at)

pinned_by : (b k : ℕ) (D : List Deed) (one : SentItem) → one.to ≡ b → one.session ≡ number b D → one.number ≡ k → is_some_of (counted_in one.item) ≡ true → is_settled b k D ≡ false → closed b D ≡ false → is_pinned D one ≡ true
pinned_by b k D one to session is some unsettled up =
    and_from _ _ (and_from _ _ (and_from _ _ some (eq-eqb one.session (number one.to D) (session ∙ ap (λ (p : ℕ). number p D) (sym to)))) (not_from_false _ (ap (λ (p : ℕ). is_settled p one.number D) to ∙ ap (λ (j : ℕ). is_settled b j D) is ∙ unsettled))) (not_from_false _ (ap (λ (p : ℕ). closed p D) to ∙ up))

-- what was settled, and what is settled by a Settle that comes next and behind it, is all that b settled in the session in which a is
settles_split : (n a b k : ℕ) (J : List Entry) (begins : ActsNow n b a J) (rest : List (ℕ × Option Item)) → begins.0 ≡ (1 + length (acted_from b a J), Some (items.Settle k)) ∷ rest → settles_among (items_among (acted_from b a J)) ++ k ∷ settles_among (items_among rest) ≡ settles_among (sent_to n b a J)
settles_split n a b k J begins rest is =
    let heard : List Item = items_among (acted_from b a J) in
    let behind : settles_among heard ++ k ∷ settles_among (items_among rest) ≡ settles_among heard ++ settles_among (items_among begins.0) = ap (λ pairs. settles_among heard ++ settles_among (items_among pairs)) (sym is) in
    let joined : settles_among heard ++ settles_among (items_among begins.0) ≡ settles_among (heard ++ items_among begins.0) = sym (filter_map-append settle_in heard (items_among begins.0)) in
    let all : settles_among (heard ++ items_among begins.0) ≡ settles_among (sent_to n b a J) = ap settles_among (items_split n b a J begins) in
    behind ∙ joined ∙ all

-- a Settle that comes next on a session that is open here is of a bundle
pub settle_bundle : (n a b k : ℕ) (limits : ℕ → Limits) (J : List Entry) → WorldRun n limits J → AreOfTypes J → closed_at a b J ≡ false → IsNext n b a (items.Settle k) J → has_bundle b k (history_at a n J) ≡ true
settle_bundle n a b k limits J run typed up next =
    let session : ℕ = number_at a b J in
    let begins = in_order_now n limits J run typed b a in
    let rest = rest_next n b a (items.Settle k) J begins next in
    let ks : List ℕ = settles_among (items_among (acted_from b a J)) in
    let more : List ℕ = settles_among (items_among rest.0) in
    let split : ks ++ k ∷ more ≡ settles_among (sent_to n b a J) = settles_split n a b k J begins rest.0 rest.1 in
    let points = settlements n limits J run in
    let once : AreOnce (ks ++ k ∷ more) = subst AreOnce (sym split) (points.once a b session) in
    let carry : IsCarrying (acted_in a b session J) k = (all_split (IsCarrying (acted_in a b session J)) ks (k ∷ more) (subst (AllByRecursion (IsCarrying (acted_in a b session J))) (sym split) (points.carried a b session))).1.0 in
    let unsettled : is_settled b k (deeds_at a J) ≡ false = false_from_ne_true _ (λ settled. never_twice ks more k once (settled_in b k (deeds_at a J) settled)) in
    let order = in_order n limits J run typed a b session in
    let its : IsSentAs n a b session k carry.0 J = sent_as n a b session k carry.0 J (place_in_whole (acted_in a b session J) order.0 _ (k - 1) (k, Some carry.0) order.1 carry.1) in
    let one : SentItem = its.one in
    let all : List SentItem = sent (history_at a n J) in
    some_passes (is_sent_to b session) (is_pinned (deeds_at a J)) (λ (o : SentItem). o.to == b && o.number == k) all (k - 1) one its.place
    (pinned_by b k (deeds_at a J) one its.to its.of_session its.number (ap (λ (i : Item). is_some_of (counted_in i)) its.same ∙ carry.2) unsettled up)
    (and_from (one.to == b) (one.number == k) (eq-eqb one.to b its.to) (eq-eqb one.number k its.number))
