-- No object is withdrawn while a space needs it: whoever could use it, or has a copy of its reference on the way, is granted
-- it, so listed for it, and then it isn't withdrawn.
use Rattle.std.proofs.Common.{◌≡◌, ℕ, ◌≤◌, ◌&&◌, ◌||◌, not, Bool, true, false, List, [], ◌∷◌, refl, sym, subst, arith}
use Rattle.std.specs.List.{AllByRecursion, list_any}
use Rattle.std.proofs.lemmas.Bool.{eqb-true, and_parts, and_from, or_from, both_ways, not-true, not_from_false, false_from_ne_true}
use Rattle.nob_ids.specs.Names.{is_same, is_counted}
use Rattle.nob_ids.specs.declared.limits.Limits.{Limits}
use Rattle.nob_ids.specs.declared.wire_rep.WireRep.{WireRep}
use Rattle.nob_item.specs.Kinds.{counted_in}
use Rattle.nob_model_types.specs.declared.entry.Entry.{Entry}
use Rattle.nob_model_types.specs.declared.deed.Deed.TheVariants as did
use Rattle.nob_model_types.specs.Turns.{turns, is_own, is_granted, carries}
use Rattle.nob_model_history.specs.declared.transit.SentItem.{SentItem}
use Rattle.nob_model_history.specs.Holds.{is_held}
use Rattle.nob_model_history.specs.Listing.{is_listed, is_any_listed}
use Rattle.nob_model_history.specs.Transit.{is_some_of, is_of_present, sent, is_pinned, pins}
use Rattle.nob_model_history.proofs.Listed.{listed_any}
use Rattle.nob_model_history.proofs.Turning.{same_ref}
use Rattle.nob_model.specs.Right.{right_after, own_ref}
use Rattle.nob_model.specs.Lists.{IsRightDeed, AreRightDeeds}
use Rattle.nob_model.proofs.Doing.{was_answered}
use Rattle.nob_model.proofs.Accepted.{withdraw_tells}
use Rattle.nob_model.proofs.Waiting.{all_weaker}
use Rattle.nob_model_journal.specs.Journals.{deeds_at, history_at, closed_at, are_in_one, both_open}
use Rattle.nob_model_journal.specs.Runs.{WorldRun}
use Rattle.nob_model_journal.specs.Safety.{reaches_owner, can_use, is_in_transit, is_with_owner, is_open_for, is_open_copy, WithdrawsUnneeded, NoneNeeds}
use Rattle.nob_model_invariant.specs.Typed.{AreOfTypes}
use Rattle.nob_model_invariant.specs.SafetyLaws.{SafeWithdrawLaw}
use Rattle.nob_model_invariant.proofs.Entries.{grows_own, right_deeds_at}
use Rattle.nob_model_holdings.proofs.Holdings.{pins_stand}
use Rattle.nob_model_invariant.proofs.Listings.{listings}
use Rattle.nob_model_invariant.proofs.SafetyPoints.{holdings}

-- ---- who is granted reaches the owner's list

-- a space that isn't the owner and has what it needs of a granted reference
other_listed : (own granted reached listed : Bool) → (own ≡ true → ⊥) → (own || granted) ≡ true → (own || reached) ≡ true → (granted ≡ true → reached ≡ true → listed ≡ true) → listed ≡ true
other_listed true granted reached listed never owned reaches then = absurd (never refl)
other_listed false granted reached listed never owned reaches then = then owned reaches

-- where nobody is listed for an object of o, no other space that reaches o is granted it
none_granted : (n : ℕ) (limits : ℕ → Limits) (J : List Entry) → WorldRun n limits J → AreOfTypes J → (s : ℕ) (rep : WireRep) → (is_own s rep ≡ true → ⊥) → (is_own s rep || is_granted (turns s n rep (deeds_at s J))) ≡ true → reaches_owner s rep J ≡ true → is_any_listed rep.owner rep.index (deeds_at rep.owner J) ≡ false → ⊥
none_granted n limits J run typed s rep never owned reaches nobody =
    both_ways (is_any_listed rep.owner rep.index (deeds_at rep.owner J)) nobody
    (listed_any rep.owner rep.index s (deeds_at rep.owner J)
    (other_listed (is_own s rep) (is_granted (turns s n rep (deeds_at s J))) (both_open s rep.owner J) (is_listed rep.owner rep.index s (deeds_at rep.owner J)) never owned reaches
    (λ granted both. let parts = and_parts (are_in_one s rep.owner J) (not (closed_at s rep.owner J) && not (closed_at rep.owner s J)) both in (listings n limits J run typed).granted_listed s rep granted parts.0 (not-true _ (and_parts (not (closed_at s rep.owner J)) (not (closed_at rep.owner s J)) parts.1).1))))

-- ---- what a Withdraw tells

-- what is known of an object that is withdrawn
pub record IsFree (n : ℕ) (rep : WireRep) (J : List Entry) : Type 0 where
  pub counted : is_counted rep ≡ true
  pub unheld : is_held rep.owner rep (history_at rep.owner n J) ≡ false
  pub unpinned : pins rep (history_at rep.owner n J) ≡ 0
  pub unlisted : is_any_listed rep.owner rep.index (deeds_at rep.owner J) ≡ false

withdraw_free : (s n index : ℕ) (limits : Limits) (J : List Entry) → IsRightDeed s n limits (did.Withdraw index) (deeds_at s J) → IsFree n (own_ref s index) J
unfolding right_after
withdraw_free s n index limits J right =
    let told = withdraw_tells s index (history_at s n J) (was_answered s n limits (did.Withdraw index) (deeds_at s J) right) in
    record { counted = not_from_false _ told.0; unheld = told.2; unpinned = eqb-true _ _ told.3; unlisted = told.4 }

-- ---- nobody needs it

own_is : (s : ℕ) (rep : WireRep) → is_own s rep ≡ true → rep.owner ≡ s
own_is s rep own = eqb-true rep.owner s own

-- no space can use it
none_uses : (n : ℕ) (limits : ℕ → Limits) (J : List Entry) → WorldRun n limits J → AreOfTypes J → (rep : WireRep) → IsFree n rep J → (s : ℕ) → can_use n s rep J ≡ true → ⊥
none_uses n limits J run typed rep free s uses =
    let parts = and_parts _ _ uses in
    let never : is_own s rep ≡ true → ⊥ = λ own. both_ways _ free.unheld (subst (λ (o : ℕ). is_held o rep (history_at o n J) ≡ true) (sym (own_is s rep own)) parts.0) in
    none_granted n limits J run typed s rep never ((holdings n limits J run).held_granted s rep free.counted parts.0) parts.1 free.unlisted

-- what an item carries stands among its references
carried_has : (P : WireRep → Type 0) (rep : WireRep) (reps : List WireRep) → AllByRecursion P reps → list_any (is_same rep) reps ≡ true → P rep
carried_has P rep [] all there = cc
carried_has P rep (other ∷ reps) all there = has (is_same rep other) refl all.0 (carried_has P rep reps all.1) there
  where
    has : (b : Bool) → is_same rep other ≡ b → P other → (list_any (is_same rep) reps ≡ true → P rep) → (b || list_any (is_same rep) reps) ≡ true → P rep
    has true same its rest there = subst P (sym (same_ref rep other same)) its
    has false same its rest there = rest there

carried_some : (rep : WireRep) (reps : List WireRep) → list_any (is_same rep) reps ≡ true → is_some_of reps ≡ true
carried_some rep [] there = cc
carried_some rep (other ∷ reps) there = refl

-- no copy of it is in open transit
none_carries : (n : ℕ) (limits : ℕ → Limits) (J : List Entry) → WorldRun n limits J → AreOfTypes J → (rep : WireRep) → IsFree n rep J → (s : ℕ) (one : SentItem) → (is_pinned (deeds_at s J) one ≡ true → AllByRecursion (λ r. 1 ≤ pins r (history_at s n J)) (counted_in one.item)) → is_open_copy s rep J one ≡ true → ⊥
none_carries n limits J run typed rep free s one pinned is =
    let parts = and_parts (carries rep one.item && is_in_transit s one J) (is_open_for s rep J one) is in
    let way = and_parts (carries rep one.item) (is_in_transit s one J) parts.0 in
    let ways = and_parts (is_of_present (deeds_at s J) one && both_open s one.to J) (is_with_owner s rep J one && reaches_owner s rep J) parts.1 in
    let there = and_parts (is_of_present (deeds_at s J) one) (both_open s one.to J) ways.0 in
    let both = and_parts (are_in_one s one.to J) (not (closed_at s one.to J) && not (closed_at one.to s J)) there.1 in
    let open_here = (and_parts (not (closed_at s one.to J)) (not (closed_at one.to s J)) both.1).0 in
    let reach = (and_parts (is_with_owner s rep J one) (reaches_owner s rep J) ways.1).1 in
    let pin : is_pinned (deeds_at s J) one ≡ true = and_from _ _ (and_from _ _ (and_from _ _ (carried_some rep (counted_in one.item) way.0) there.0) way.1) open_here in
    let some : 1 ≤ pins rep (history_at s n J) = carried_has (λ r. 1 ≤ pins r (history_at s n J)) rep (counted_in one.item) (pinned pin) way.0 in
    let never : is_own s rep ≡ true → ⊥ = λ own. (
    let here : 1 ≤ pins rep (history_at rep.owner n J) = subst (λ (o : ℕ). 1 ≤ pins rep (history_at o n J)) (sym (own_is s rep own)) some in
    let none = free.unpinned in
    omega (arith, here, none)
    ) in
    none_granted n limits J run typed s rep never ((holdings n limits J run).pinned_granted s rep some) reach free.unlisted

any_none : {X : Type 0} (test : X → Bool) (xs : List X) → AllByRecursion (λ x. test x ≡ true → ⊥) xs → list_any test xs ≡ false
any_none test [] none = refl
any_none test (x ∷ xs) none = or_from (test x) (list_any test xs) (false_from_ne_true (test x) none.0) (any_none test xs none.1)

none_needs : (n : ℕ) (limits : ℕ → Limits) (J : List Entry) → WorldRun n limits J → AreOfTypes J → (rep : WireRep) → IsFree n rep J → NoneNeeds n rep J
none_needs n limits J run typed rep free s = (
  false_from_ne_true (can_use n s rep J) (none_uses n limits J run typed rep free s),
  any_none (is_open_copy s rep J) (sent (history_at s n J))
      (all_weaker (λ one. is_pinned (deeds_at s J) one ≡ true → AllByRecursion (λ r. 1 ≤ pins r (history_at s n J)) (counted_in one.item)) (λ one. is_open_copy s rep J one ≡ true → ⊥)
      (none_carries n limits J run typed rep free s) (sent (history_at s n J)) (pins_stand s n (deeds_at s J))),
)

withdraws_unneeded : (n : ℕ) (limits : ℕ → Limits) (entry : Entry) (J : List Entry) → WorldRun n limits (entry ∷ J) → AreOfTypes J → WithdrawsUnneeded n entry J
withdraws_unneeded n limits entry J run typed index is =
    let right : AreRightDeeds entry.space n (limits entry.space) (did.Withdraw index ∷ deeds_at entry.space J) = subst (AreRightDeeds entry.space n (limits entry.space)) (grows_own entry J (did.Withdraw index) is) (right_deeds_at n limits (entry ∷ J) run entry.space) in
    none_needs n limits J run.1 typed (own_ref entry.space index) (withdraw_free entry.space n index (limits entry.space) J right.0)

-- in every run of a world no object is withdrawn while a space needs it
pub safe_withdraw : SafeWithdrawLaw
safe_withdraw n limits [] run typed = tt
safe_withdraw n limits (entry ∷ J) run typed = (withdraws_unneeded n limits entry J run typed.1, safe_withdraw n limits J run.1 typed.1)
