-- What an owner denied a client: all that it sent that client with a reference to the object is settled.
use Rattle.std.proofs.Common.{◌≡◌, ℕ, ◌+◌, ◌≤◌, ◌&&◌, ◌||◌, not, Bool, true, false, cond, List, [], ◌∷◌, ◌++◌, length, refl, sym, ap, subst, ◌∙◌, ◌⊎◌, inl, inr, arith}
use Rattle.std.specs.Prelude.{◌==◌}
use Rattle.std.specs.List.{AllByRecursion, list_any}
use Rattle.std.proofs.lemmas.Bool.{eqb-true, eq-eqb, ne_eqb, and_parts, and_from, and_right, or_right, both_ways, not_from_false, true_from_ne_false}
use Rattle.std.proofs.lemmas.List.{append-nil, length-append, nil_from_length}
use Rattle.std.proofs.lemmas.List.Elements.{filter_map-append}
use Rattle.nob_ids.specs.Names.{is_same}
use Rattle.nob_ids.specs.declared.limits.Limits.{Limits}
use Rattle.nob_ids.specs.declared.wire_rep.WireRep.{WireRep}
use Rattle.nob_item.specs.Kinds.{counted_in}
use Rattle.nob_model_types.specs.declared.deed.Deed.{Deed}
use Rattle.nob_model_types.specs.declared.deed.Deed.TheVariants as did
use Rattle.nob_model_types.specs.Sessions.{is_peer, closed, number, item_at, acted}
use Rattle.nob_model_types.specs.Objects.{is_exported, is_withdrawn, is_live}
use Rattle.nob_model_types.specs.Turns.{carries}
use Rattle.nob_model_work.specs.declared.gifts.Gift.{Gift}
use Rattle.nob_model_work.specs.Work.{work}
use Rattle.nob_model_work.specs.Gifts.{gifts_of, gifts}
use Rattle.nob_model_history.specs.declared.transit.SentItem.{SentItem}
use Rattle.nob_model_history.specs.Histories.{history_of}
use Rattle.nob_model_history.specs.Ends.{items_to}
use Rattle.nob_model_history.specs.Transit.{is_sent_to, next_sent, is_some_of, is_of_present, is_settle_of, is_settled, is_pinned, pins, sent}
use Rattle.nob_model_history.proofs.Numbered.{items_sent_in, gifts_sent_now}
use Rattle.nob_model_history.proofs.Sessions.{opens, number_kept}
use Rattle.nob_model_history.proofs.Sending.{new_items, new_present, sent_more}
use Rattle.nob_model_history.proofs.Turning.{same_ref}
use Rattle.nob_model.specs.Right.{own_ref}
use Rattle.nob_model.specs.Lists.{AreRightDeeds}
use Rattle.nob_model.proofs.Carrying.{all_filter}
use Rattle.nob_model.proofs.Guarding.{GuardsItem, IsGuarded, AreGuarded, gifts_guarded, pinned_law}
use Rattle.nob_model.proofs.Waiting.{act_open, all_weaker}
use Rattle.nob_model_invariant.specs.Asking.{answer_in, answers_among, asks_among, items_among, has_no, dirties_in}
use Rattle.nob_model_journal.specs.Journals.{acted_during}
use Rattle.nob_model_invariant.specs.Settles.{settles_among, is_in}
use Rattle.nob_model_holdings.proofs.Holdings.{pins_stand}
use Rattle.nob_model_holdings.proofs.Lists.{all_append}
use Rattle.nob_model_invariant.proofs.Owners.{gave_of, asked_of, are_answered}
use Rattle.nob_model_invariant.proofs.BySession.{given_elsewhere, sent_stays, acted_stays}
use Rattle.nob_model_invariant.proofs.Opened.{opens_above}
use Rattle.nob_model_invariant.proofs.EachSession.{acted_is}
use Rattle.nob_model_invariant.proofs.Anew.{none_sent_new}
use Rattle.nob_model_invariant.proofs.Bundles.{settled_in}

-- what went to client c in the session in which space s is, with a reference to the object of an index, is settled
abbrev pub IsSettledTo : (s c x : ℕ) → List Deed → SentItem → Type 0
IsSettledTo s c x D one = is_sent_to c (number c D) one ≡ true → carries (own_ref s x) one.item ≡ true → is_settled c one.number D ≡ true

-- ---- what an item carries

-- what an item carries stands among its references
pub carried_has : (P : WireRep → Type 0) (rep : WireRep) (reps : List WireRep) → AllByRecursion P reps → list_any (is_same rep) reps ≡ true → P rep
carried_has P rep [] all there = cc
carried_has P rep (other ∷ reps) all there = has (is_same rep other) refl all.0 (carried_has P rep reps all.1) there
  where
    has : (b : Bool) → is_same rep other ≡ b → P other → (list_any (is_same rep) reps ≡ true → P rep) → (b || list_any (is_same rep) reps) ≡ true → P rep
    has true same its rest there = subst P (sym (same_ref rep other same)) its
    has false same its rest there = rest there

pub carried_some : (rep : WireRep) (reps : List WireRep) → list_any (is_same rep) reps ≡ true → is_some_of reps ≡ true
carried_some rep [] there = cc
carried_some rep (other ∷ reps) there = refl

-- ---- what was sent before

-- what isn't live has no pins, so all that went to a client on an open session with a reference to it is settled
unpinned_settled : (s n : ℕ) (limits : Limits) (c x : ℕ) (D : List Deed) → AreRightDeeds s n limits D → is_live s x D ≡ false → closed c D ≡ false → (one : SentItem) → (is_pinned D one ≡ true → AllByRecursion (λ rep. 1 ≤ pins rep (history_of s n D)) (counted_in one.item)) → IsSettledTo s c x D one
unpinned_settled s n limits c x D right dead up one stand to carried = true_from_ne_false (is_settled c one.number D) pinned
  where
    same : one.to ≡ c
    same = eqb-true one.to c (and_parts (one.to == c) (one.session == number c D) to).0

    present : is_of_present D one ≡ true
    present = ap (λ (p : ℕ). one.session == number p D) same ∙ (and_parts (one.to == c) (one.session == number c D) to).1

    alive : 1 ≤ pins (own_ref s x) (history_of s n D) → ⊥
    alive some = both_ways (is_live s x D) dead (pinned_law s n limits D right x (ne_eqb (pins (own_ref s x) (history_of s n D)) 0 (λ none. omega (arith, some, none))))

    pinned : is_settled c one.number D ≡ false → ⊥
    pinned unsettled =
        let pin : is_pinned D one ≡ true = and_from _ _ (and_from _ _ (and_from _ _ (carried_some (own_ref s x) (counted_in one.item) carried) present) (not_from_false _ (ap (λ (p : ℕ). is_settled p one.number D) same ∙ unsettled))) (not_from_false _ (ap (λ (p : ℕ). closed p D) same ∙ up)) in
        alive (carried_has (λ rep. 1 ≤ pins rep (history_of s n D)) (own_ref s x) (counted_in one.item) (stand pin) carried)

settled_later : (now before : Bool) → before ≡ true → (now || before) ≡ true
settled_later now before is = or_right now before is

-- what was settled stays so
settled_stays : (p k : ℕ) (deed : Deed) (D : List Deed) → opens p deed ≡ false → is_settled p k D ≡ true → is_settled p k (deed ∷ D) ≡ true
settled_stays p k (did.Act q j) D kept is = settled_later (q == p && is_settle_of k (item_at q j D)) (is_settled p k D) is
settled_stays p k (did.Open q j) D kept is = ap (λ (b : Bool). cond b false (is_settled p k D)) kept ∙ is
settled_stays p k deed D kept is = is

still_settled : (s c x : ℕ) (deed : Deed) (D : List Deed) → opens c deed ≡ false → (all : List SentItem) → AllByRecursion (IsSettledTo s c x D) all → AllByRecursion (IsSettledTo s c x (deed ∷ D)) all
still_settled s c x deed D kept all are = all_weaker (IsSettledTo s c x D) (IsSettledTo s c x (deed ∷ D)) (λ one its to carried. settled_stays c one.number deed D kept (its (ap (λ (k : ℕ). is_sent_to c k one) (sym (number_kept c deed D kept)) ∙ to) carried)) all are

-- ---- what is sent now

-- nothing that is sent carries a reference to an own object that isn't live
new_settled : (s c x : ℕ) (D E : List Deed) (more : List Gift) (before : List SentItem) → is_live s x D ≡ false → AreGuarded s D more → AllByRecursion (IsSettledTo s c x E) (new_items D before more)
new_settled s c x D E [] before dead are = tt
new_settled s c x D E (gift ∷ more) before dead are = (λ to carried. absurd (both_ways (is_live s x D) dead (carried_has (IsGuarded s D) (own_ref s x) (counted_in gift.item) are.0 carried (eq_self s))), new_settled s c x D E more (before ++ next_sent D before gift ∷ []) dead are.1)
  where
    eq_self : (m : ℕ) → (m == m) ≡ true
    eq_self m = eq-eqb m m refl

sent_settled : (s n : ℕ) (limits : Limits) (c x : ℕ) (deed : Deed) (D : List Deed) → opens c deed ≡ false → AreRightDeeds s n limits (deed ∷ D) → is_live s x D ≡ false → AllByRecursion (IsSettledTo s c x D) (sent (history_of s n D)) → AllByRecursion (IsSettledTo s c x (deed ∷ D)) (sent (history_of s n (deed ∷ D)))
unfolding gifts
sent_settled s n limits c x deed D kept right dead before =
    subst (AllByRecursion (IsSettledTo s c x (deed ∷ D))) (sym (sent_more s n deed D))
    (all_append (IsSettledTo s c x (deed ∷ D)) (sent (history_of s n D)) _ (still_settled s c x deed D kept (sent (history_of s n D)) before)
    (new_settled s c x D (deed ∷ D) (gifts s n deed D (work s n D)) (sent (history_of s n D)) dead (all_filter (λ (gift : Gift). GuardsItem s D gift.item) (λ (gift : Gift). is_peer s n gift.to) (gifts_of s n deed D (work s n D)) (gifts_guarded s n limits deed D right.0))))

-- ---- one deed more

dead_by : (known gone : Bool) → gone ≡ true → (known && not gone) ≡ false
dead_by known true is = and_right known false refl
dead_by known false is = cc

-- what was denied isn't live
dead_of : (s n : ℕ) (limits : Limits) (c x : ℕ) (D : List Deed) → AreRightDeeds s n limits D → has_no (gave_of s n c x D) ≡ true → is_live s x D ≡ false
dead_of s n limits c x D right refuses = dead_by (is_exported s x D) (is_withdrawn x D) ((are_answered s n limits c x D right).denied refuses).1

-- after an item from the client: what it was denied isn't live, and its session is open
own_act : (s n : ℕ) (limits : Limits) (c x k : ℕ) (D : List Deed) → AreRightDeeds s n limits (did.Act c k ∷ D) → has_no (gave_of s n c x (did.Act c k ∷ D)) ≡ true → AllByRecursion (IsSettledTo s c x (did.Act c k ∷ D)) (sent (history_of s n (did.Act c k ∷ D)))
own_act s n limits c x k D right refuses =
    let dead : is_live s x D ≡ false = dead_of s n limits c x (did.Act c k ∷ D) right refuses in
    sent_settled s n limits c x (did.Act c k) D refl right dead
    (all_weaker (λ one. is_pinned D one ≡ true → AllByRecursion (λ rep. 1 ≤ pins rep (history_of s n D)) (counted_in one.item)) (IsSettledTo s c x D)
    (unpinned_settled s n limits c x D right.1 dead (act_open s n limits c k D right.0)) (sent (history_of s n D)) (pins_stand s n D))

-- what is answered to a client by a deed that acts on nothing from it
same_answers : (s n : ℕ) (limits : Limits) (c x : ℕ) (deed : Deed) (D : List Deed) → opens c deed ≡ false → AreRightDeeds s n limits (deed ∷ D) → asked_of c x (deed ∷ D) ≡ asked_of c x D → gave_of s n c x (deed ∷ D) ≡ gave_of s n c x D
same_answers s n limits c x deed D kept right same =
    let more : List Bool = answers_among x (items_to c (gifts s n deed D (work s n D))) in
    let longer : gave_of s n c x (deed ∷ D) ≡ gave_of s n c x D ++ more =
    ap (λ (k : ℕ). answers_among x (items_sent_in c k (sent (history_of s n (deed ∷ D))))) (number_kept c deed D kept)
    ∙ ap (answers_among x) (gifts_sent_now c D (gifts s n deed D (work s n D)) (sent (history_of s n D)))
    ∙ filter_map-append (answer_in x) (items_sent_in c (number c D) (sent (history_of s n D))) (items_to c (gifts s n deed D (work s n D))) in
    let now : length (gave_of s n c x (deed ∷ D)) ≡ dirties_in (asked_of c x (deed ∷ D)) = (are_answered s n limits c x (deed ∷ D) right).in_turn.each in
    let earlier : length (gave_of s n c x D) ≡ dirties_in (asked_of c x D) = (are_answered s n limits c x D right.1).in_turn.each in
    let size : length (gave_of s n c x D) + length more ≡ length (gave_of s n c x D) = sym (length-append (gave_of s n c x D) more) ∙ ap length (sym longer) ∙ now ∙ ap dirties_in same ∙ sym earlier in
    longer ∙ ap (λ bs. gave_of s n c x D ++ bs) (nil_from_length more (omega (arith, size))) ∙ append-nil (gave_of s n c x D)

other_deed : (s n : ℕ) (limits : Limits) (c x : ℕ) (deed : Deed) (D : List Deed) → opens c deed ≡ false → AreRightDeeds s n limits (deed ∷ D) → asked_of c x (deed ∷ D) ≡ asked_of c x D → (has_no (gave_of s n c x D) ≡ true → AllByRecursion (IsSettledTo s c x D) (sent (history_of s n D))) → has_no (gave_of s n c x (deed ∷ D)) ≡ true → AllByRecursion (IsSettledTo s c x (deed ∷ D)) (sent (history_of s n (deed ∷ D)))
other_deed s n limits c x deed D kept right same before refuses =
    let earlier : has_no (gave_of s n c x D) ≡ true = ap has_no (sym (same_answers s n limits c x deed D kept right same)) ∙ refuses in
    sent_settled s n limits c x deed D kept right (dead_of s n limits c x D right.1 earlier) (before earlier)

act_deed : (s n : ℕ) (limits : Limits) (c x q k : ℕ) (D : List Deed) → AreRightDeeds s n limits (did.Act q k ∷ D) → (has_no (gave_of s n c x D) ≡ true → AllByRecursion (IsSettledTo s c x D) (sent (history_of s n D))) → has_no (gave_of s n c x (did.Act q k ∷ D)) ≡ true → (own : Bool) → (q == c) ≡ own → AllByRecursion (IsSettledTo s c x (did.Act q k ∷ D)) (sent (history_of s n (did.Act q k ∷ D)))
act_deed s n limits c x q k D right before refuses true own =
    let same : c ≡ q = sym (eqb-true q c own) in
    subst (λ (r : ℕ). AreRightDeeds s n limits (did.Act r k ∷ D) → has_no (gave_of s n c x (did.Act r k ∷ D)) ≡ true → AllByRecursion (IsSettledTo s c x (did.Act r k ∷ D)) (sent (history_of s n (did.Act r k ∷ D)))) same (own_act s n limits c x k D) right refuses
act_deed s n limits c x q k D right before refuses false own =
    other_deed s n limits c x (did.Act q k) D refl right (ap (λ (b : Bool). asks_among x (items_among (cond b (acted c D ++ (k, item_at c k D) ∷ []) (acted c D)))) own) before refuses

-- where its session is opened anew it was denied nothing
open_deed : (s n : ℕ) (limits : Limits) (c x q k : ℕ) (D : List Deed) → AreRightDeeds s n limits (did.Open q k ∷ D) → (has_no (gave_of s n c x D) ≡ true → AllByRecursion (IsSettledTo s c x D) (sent (history_of s n D))) → has_no (gave_of s n c x (did.Open q k ∷ D)) ≡ true → (own : Bool) → (q == c) ≡ own → AllByRecursion (IsSettledTo s c x (did.Open q k ∷ D)) (sent (history_of s n (did.Open q k ∷ D)))
open_deed s n limits c x q k D right before refuses true own =
    absurd (both_ways (has_no (gave_of s n c x (did.Open q k ∷ D))) (ap (λ more. has_no (answers_among x more)) (none_sent_new s n c limits (did.Open q k) D right (opens_above s n c limits (did.Open q k) D right.0 own))) refuses)
open_deed s n limits c x q k D right before refuses false other =
    other_deed s n limits c x (did.Open q k) D other right (ap (λ (b : Bool). asks_among x (items_among (cond b [] (acted c D)))) other) before refuses

-- in every list of right deeds all that went to a client with a reference to what it was denied is settled
pub denied_settled : (s n : ℕ) (limits : Limits) (c x : ℕ) (D : List Deed) → AreRightDeeds s n limits D → has_no (gave_of s n c x D) ≡ true → AllByRecursion (IsSettledTo s c x D) (sent (history_of s n D))
denied_settled s n limits c x [] right refuses = tt
denied_settled s n limits c x (did.Act q k ∷ D) right refuses = act_deed s n limits c x q k D right (denied_settled s n limits c x D right.1) refuses (q == c) refl
denied_settled s n limits c x (did.Open q k ∷ D) right refuses = open_deed s n limits c x q k D right (denied_settled s n limits c x D right.1) refuses (q == c) refl
denied_settled s n limits c x (deed ∷ D) right refuses = other_deed s n limits c x deed D refl right refl (denied_settled s n limits c x D right.1) refuses

-- ---- each session

-- what went to client c in a session, with a reference to the object of an index, is settled by what was acted on in it
abbrev pub IsSettledIn : (s c x k : ℕ) → List Deed → SentItem → Type 0
IsSettledIn s c x k D one = is_sent_to c k one ≡ true → carries (own_ref s x) one.item ≡ true → is_in one.number (settles_among (items_among (acted_during c k D))) ≡ true

settled_now : (s n : ℕ) (limits : Limits) (c x : ℕ) (D : List Deed) → AreRightDeeds s n limits D → has_no (gave_of s n c x D) ≡ true → AllByRecursion (IsSettledIn s c x (number c D) D) (sent (history_of s n D))
settled_now s n limits c x D right refuses =
    all_weaker (IsSettledTo s c x D) (IsSettledIn s c x (number c D) D)
    (λ one its to carried. subst (λ pairs. is_in one.number (settles_among (items_among pairs)) ≡ true) (acted_is s n c limits D right) (settled_in c one.number D (its to carried)))
    (sent (history_of s n D)) (denied_settled s n limits c x D right refuses)

-- what is sent in another session
elsewhere : (s c x k : ℕ) (D E : List Deed) (more : List SentItem) → (number c D == k) ≡ false → AllByRecursion (λ (one : SentItem). is_of_present D one ≡ true) more → AllByRecursion (IsSettledIn s c x k E) more
elsewhere s c x k D E more other all = all_weaker (λ (one : SentItem). is_of_present D one ≡ true) (IsSettledIn s c x k E) never more all
  where
    never : (one : SentItem) → is_of_present D one ≡ true → IsSettledIn s c x k E one
    never one present to carried =
        let parts = and_parts (one.to == c) (one.session == k) to in
        let same : number c D ≡ k = ap (λ (p : ℕ). number p D) (sym (eqb-true one.to c parts.0)) ∙ sym (eqb-true one.session (number one.to D) present) ∙ eqb-true one.session k parts.1 in
        absurd (both_ways (number c D == k) other (eq-eqb (number c D) k same))

stays_settled : (s n : ℕ) (c x k : ℕ) (deed : Deed) (D : List Deed) → (number c (deed ∷ D) == k) ≡ false → AllByRecursion (IsSettledIn s c x k D) (sent (history_of s n D)) → AllByRecursion (IsSettledIn s c x k (deed ∷ D)) (sent (history_of s n (deed ∷ D)))
stays_settled s n c x k deed D other before =
    subst (AllByRecursion (IsSettledIn s c x k (deed ∷ D))) (sym (sent_more s n deed D))
    (all_append (IsSettledIn s c x k (deed ∷ D)) (sent (history_of s n D)) (new_items D (sent (history_of s n D)) (gifts s n deed D (work s n D))) still
    (by (given_elsewhere s n c k deed D other)))
  where
    still : AllByRecursion (IsSettledIn s c x k (deed ∷ D)) (sent (history_of s n D))
    still = all_weaker (IsSettledIn s c x k D) (IsSettledIn s c x k (deed ∷ D)) (λ one its to carried. subst (λ pairs. is_in one.number (settles_among (items_among pairs)) ≡ true) (sym (acted_stays c k deed D other)) (its to carried)) (sent (history_of s n D)) before

    by : ((number c D == k) ≡ false) ⊎ (gifts s n deed D (work s n D) ≡ []) → AllByRecursion (IsSettledIn s c x k (deed ∷ D)) (new_items D (sent (history_of s n D)) (gifts s n deed D (work s n D)))
    by (inl there) = elsewhere s c x k D (deed ∷ D) _ there (new_present D (gifts s n deed D (work s n D)) (sent (history_of s n D)))
    by (inr none) = subst (λ more. AllByRecursion (IsSettledIn s c x k (deed ∷ D)) (new_items D (sent (history_of s n D)) more)) (sym none) tt

-- in every list of right deeds all that went to a client in a session with a reference to what it was denied in it is settled
pub denied_in : (s n : ℕ) (limits : Limits) (c x k : ℕ) (D : List Deed) → AreRightDeeds s n limits D → has_no (answers_among x (items_sent_in c k (sent (history_of s n D)))) ≡ true → AllByRecursion (IsSettledIn s c x k D) (sent (history_of s n D))
denied_in s n limits c x k [] right refuses = tt
denied_in s n limits c x k (deed ∷ D) right refuses = by (number c (deed ∷ D) == k) refl (denied_in s n limits c x k D right.1) refuses
  where
    by : (b : Bool) → (number c (deed ∷ D) == k) ≡ b → (has_no (answers_among x (items_sent_in c k (sent (history_of s n D)))) ≡ true → AllByRecursion (IsSettledIn s c x k D) (sent (history_of s n D))) → has_no (answers_among x (items_sent_in c k (sent (history_of s n (deed ∷ D))))) ≡ true → AllByRecursion (IsSettledIn s c x k (deed ∷ D)) (sent (history_of s n (deed ∷ D)))
    by true is before refuses =
        subst (λ (m : ℕ). has_no (answers_among x (items_sent_in c m (sent (history_of s n (deed ∷ D))))) ≡ true → AllByRecursion (IsSettledIn s c x m (deed ∷ D)) (sent (history_of s n (deed ∷ D)))) (eqb-true (number c (deed ∷ D)) k is)
        (settled_now s n limits c x (deed ∷ D) right) refuses
    by false other before refuses = stays_settled s n c x k deed D other (before (ap (λ more. has_no (answers_among x more)) (sym (sent_stays s n c k deed D other)) ∙ refuses))
