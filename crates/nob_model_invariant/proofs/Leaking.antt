-- Once all is quiet nothing waits, nothing has pins and nobody is listed who can't use what it is listed for: so no object
-- leaks.
use Rattle.std.proofs.Common.{◌≡◌, ℕ, ◌+◌, ◌-◌, ◌≤◌, ◌&&◌, ◌||◌, not, Bool, true, false, cond, List, [], ◌∷◌, ◌++◌, length, filter, filter_map, find, flat_map, Option, Some, None, Ok, Err, refl, sym, ap, subst, ◌∙◌, arith, ◌⊎◌, inl, inr}
use Rattle.std.specs.Prelude.{◌==◌}
use Rattle.std.specs.List.{AllByRecursion, list_any, list_all, slice_get, cons_option}
use Rattle.std.proofs.lemmas.Bool.{eqb-true, eqb-false, eq-eqb, ne_eqb, leb-true, le-leb, and_parts, and_from, or_cases, or_left, or_right, not-true, not_from_false, both_ways, false_from_ne_true}
use Rattle.std.proofs.lemmas.List.Elements.{filter_map-append}
use Rattle.std.proofs.lemmas.List.Folds.{list_any-append}
use Rattle.nob_ids.specs.Names.{is_same}
use Rattle.nob_ids.specs.declared.limits.Limits.{Limits}
use Rattle.nob_ids.specs.declared.wire_rep.WireRep.{WireRep}
use Rattle.nob_item.specs.Kinds.{counted_in}
use Rattle.nob_item.specs.declared.item.Item.{Item}
use Rattle.nob_item.specs.declared.item.Item.TheVariants as items
use Rattle.nob_model_types.specs.declared.answer.Answer.TheVariants as answers
use Rattle.nob_model_types.specs.declared.refusal.Refusal.TheVariants as refusals
use Rattle.nob_model_types.specs.declared.entry.Entry.{Entry}
use Rattle.nob_model_types.specs.Deeds.{deed_in}
use Rattle.nob_model_types.specs.declared.deed.Deed.{Deed}
use Rattle.nob_model_types.specs.declared.deed.Deed.TheVariants as did
use Rattle.nob_model_types.specs.declared.message.Message.{Message}
use Rattle.nob_model_types.specs.declared.message.RefCopy.{RefCopy}
use Rattle.nob_model_types.specs.declared.turns.OwnerAnswer.TheVariants as said
use Rattle.nob_model_types.specs.Sessions.{is_peer, closed, item_at, acted}
use Rattle.nob_model_types.specs.Objects.{is_exported, is_live}
use Rattle.nob_model_types.specs.Turns.{turns, is_own, is_usable, is_resolved, is_pending, is_granted, is_refused, is_yes}
use Rattle.nob_model_work.specs.Work.{work}
use Rattle.nob_model_history.specs.declared.history.History.{History}
use Rattle.nob_model_history.specs.declared.transit.SentItem.{SentItem}
use Rattle.nob_model_history.specs.Holds.{times, is_held}
use Rattle.nob_model_history.specs.Listing.{is_entered, is_listed, is_any_listed}
use Rattle.nob_model_history.specs.Transit.{is_some_of, is_of_present, is_settle_of, is_settled, is_pinned, pins, sent, is_idle, by_last_dirty}
use Rattle.nob_model_history.proofs.Listed.{any_listed}
use Rattle.nob_model_history.proofs.Pinning.{pinned_present}
use Rattle.nob_model_history.proofs.Turning.{same_ref, pending_waits}
use Rattle.nob_model_acting.specs.Candidates.{is_all_resolved, to_settle, to_clean}
use Rattle.nob_model_acting.specs.Sending.{has_numbers}
use Rattle.nob_model.specs.Right.{own_ref, settle_count, settle_of, right_settle, clean_of, right_clean, withdraw_refused, right_withdraw}
use Rattle.nob_model.specs.Lists.{AreRightDeeds}
use Rattle.nob_model.proofs.Orderly.{exported}
use Rattle.nob_model_journal.specs.Fronts.{with_numbers}
use Rattle.nob_model_journal.specs.Journals.{deeds_at, history_at, closed_at, number_at, are_in_one, both_open, sent_in, sent_now, sent_to, acted_from}
use Rattle.nob_model_journal.specs.Runs.{WorldRun}
use Rattle.nob_model_journal.specs.Safety.{can_use}
use Rattle.nob_model_invariant.specs.Asking.{answers_among, asks_among, items_among, dirties_in, last_or, last_word, turns_by, asked, heard, was_asked, gave}
use Rattle.nob_model_invariant.specs.Settles.{settle_in, settles_among, is_in}
use Rattle.nob_model_invariant.proofs.Entries.{grows, right_deeds_at}
use Rattle.nob_model_holdings.proofs.Lists.{all_at, all_both}
use Rattle.nob_model_invariant.proofs.Numbered.{numbered_at}
use Rattle.nob_model_invariant.proofs.SafetyPoints.{clients, owners}
use Rattle.nob_model_invariant.specs.Copies.{carries_any, is_waiting}
use Rattle.nob_model_invariant.specs.LossInvariant.{is_known}
use Rattle.nob_model_invariant.specs.LossLaws.{LeaksLaw}
use Rattle.nob_model_invariant.specs.Leaks.{IsHeardOut, IsAtRest, Quiet}
use Rattle.nob_model_invariant.proofs.Done.{act_peer}
use Rattle.nob_model_invariant.proofs.Known.{IsKnown, all_known}
use Rattle.nob_model_holdings.proofs.Receivers.{sent_to_peers}
use Rattle.nob_model_invariant.proofs.Placed.{IsPlaced, all_placed, stands_last}
use Rattle.nob_model_invariant.proofs.Points.{settled}

none_some : {X : Type 0} (x : X) → None ≡ Some x → ⊥
none_some x e = cc

-- ---- spaces

-- whoever did anything is one of the spaces
in_range : (n : ℕ) (limits : ℕ → Limits) (J : List Entry) → WorldRun n limits J → (s : ℕ) → (deeds_at s J ≡ []) ⊎ ((1 ≤ s) × (s ≤ n))
in_range n limits [] run s = inl refl
in_range n limits (entry ∷ J) run s = by (grows s entry J) (in_range n limits J run.1 s)
  where
    by : (deeds_at s (entry ∷ J) ≡ deeds_at s J) ⊎ ((deed : Deed) × (entry.space ≡ s) × (deed_in entry ≡ Some deed) × (deeds_at s (entry ∷ J) ≡ deed ∷ deeds_at s J)) → (deeds_at s J ≡ []) ⊎ ((1 ≤ s) × (s ≤ n)) → (deeds_at s (entry ∷ J) ≡ []) ⊎ ((1 ≤ s) × (s ≤ n))
    by (inl same) (inl none) = inl (same ∙ none)
    by (inl same) (inr range) = inr range
    by (inr more) before = inr (subst (λ (q : ℕ). 1 ≤ q) more.1 run.0.first, subst (λ (q : ℕ). q ≤ n) more.1 run.0.last)

-- a peer is a space
peer_range : (s n p : ℕ) → is_peer s n p ≡ true → (1 ≤ p) × (p ≤ n)
peer_range s n p peer = let parts = and_parts _ _ peer in (leb-true 1 p (and_parts _ _ parts.0).1, leb-true p n parts.1)

-- a space is a peer of its peers
peer_back : (s n p : ℕ) → is_peer s n p ≡ true → 1 ≤ s → s ≤ n → is_peer p n s ≡ true
peer_back s n p peer low high =
    let apart : (p == s) ≡ false = not-true _ (and_parts _ _ (and_parts _ _ peer).0).0 in
    and_from _ _ (and_from _ _ (not_from_false (s == p) (false_from_ne_true (s == p) (λ same. eqb-false p s apart (sym (eqb-true s p same))))) (le-leb 1 s low)) (le-leb s n high)

-- ---- sessions at rest

-- a session that is open at one end is heard out
heard_out : (n a b : ℕ) (J : List Entry) → IsAtRest n a b J → closed_at a b J ≡ false → IsHeardOut n a b J
heard_out n a b J (inl both) up = absurd (both_ways (closed_at a b J) up both.0)
heard_out n a b J (inr out) up = out

items_numbered : (k : ℕ) (more : List Item) → items_among (with_numbers k more) ≡ more
items_numbered k [] = refl
items_numbered k (item ∷ more) = ap (λ (rest : List Item). item ∷ rest) (items_numbered (k + 1) more)

-- on a session that is heard out both are in it
out_one : (n a b : ℕ) (J : List Entry) → IsHeardOut n a b J → number_at b a J ≡ number_at a b J
out_one n a b J out = sym (eqb-true (number_at a b J) (number_at b a J) out.in_one)

-- so what each acted on is all that the other sent in its own session
all_there : (n a b : ℕ) (J : List Entry) → IsHeardOut n a b J → items_among (acted_from a b J) ≡ sent_now n a b J
all_there n a b J out = ap items_among out.acted_there ∙ items_numbered 1 (sent_to n a b J) ∙ ap (λ (k : ℕ). sent_in n a b k J) (out_one n a b J out)

all_here : (n a b : ℕ) (J : List Entry) → IsHeardOut n a b J → items_among (acted_from b a J) ≡ sent_now n b a J
all_here n a b J out = ap items_among out.acted_here ∙ items_numbered 1 (sent_to n b a J) ∙ ap (λ (k : ℕ). sent_in n b a k J) (sym (out_one n a b J out))

-- what was asked and answered on a session that is heard out
asked_out : (n c o x : ℕ) (J : List Entry) → IsHeardOut n c o J → was_asked o c x J ≡ asks_among x (sent_now n c o J)
asked_out n c o x J out = ap (asks_among x) (all_there n c o J out)

heard_all : (n c o x : ℕ) (J : List Entry) → IsHeardOut n c o J → answers_among x (items_among (acted_from o c J)) ≡ gave n o c x J
heard_all n c o x J out = ap (answers_among x) (all_here n c o J out)

-- on a session that is heard out each Dirty is answered
none_pending : (n c : ℕ) (limits : ℕ → Limits) (rep : WireRep) (J : List Entry) → WorldRun n limits J → IsHeardOut n c rep.owner J → is_pending (turns c n rep (deeds_at c J)) ≡ true → ⊥
none_pending n c limits rep J run out pending =
    let o : ℕ = rep.owner in
    let x : ℕ = rep.index in
    let waits = pending_waits (turns_by (asked n c rep J) (heard c rep J)) (ap is_pending (sym ((clients n limits J run).turns_are c rep)) ∙ pending) in
    let fewer : length (heard c rep J) + 1 ≡ dirties_in (asked n c rep J) = waits.1 in
    let each : length (gave n o c x J) ≡ dirties_in (was_asked o c x J) = ((owners n limits J run).answered o c x).each in
    let same : length (heard c rep J) ≡ dirties_in (asked n c rep J) = ap length (heard_all n c o x J out) ∙ each ∙ ap dirties_in (asked_out n c o x J out) in
    omega (arith, fewer, same)

-- ---- nothing waits

nothing_found : {X : Type 0} (test : X → Bool) (xs : List X) → find test xs ≡ None → AllByRecursion (λ x. test x ≡ false) xs
nothing_found test [] none = tt
nothing_found test (x ∷ xs) none = by (nothing_found test xs) (test x) refl none
  where
    by : (find test xs ≡ None → AllByRecursion (λ x. test x ≡ false) xs) → (b : Bool) → test x ≡ b → cond b (Some x) (find test xs) ≡ None → (test x ≡ false) × AllByRecursion (λ x. test x ≡ false) xs
    by rest true is none = absurd (none_some x (sym none))
    by rest false is none = (is, rest none)

number_end : (b : Bool) (p k : ℕ) → cond b (Ok (answers.Settled p k)) (Err refusals.SeqEnd) ≡ Err refusals.Nothing → ⊥
number_end true p k e = cc
number_end false p k e = cc

clean_end : (b : Bool) (rep : WireRep) → cond b (Ok (answers.Cleaned rep)) (Err refusals.SeqEnd) ≡ Err refusals.Nothing → ⊥
clean_end true rep e = cc
clean_end false rep e = cc

-- where there is nothing to settle no message has all its references resolved
no_settle : (s n : ℕ) (h : History) (found : Option Message) → settle_of s n found h ≡ Err refusals.Nothing → found ≡ None
unfolding settle_of
no_settle s n h None e = refl
no_settle s n h (Some message) e = absurd (number_end (has_numbers message.from (settle_count s n message message.item h) h) message.from message.number e)

-- where there is nothing to give up there is no idle surrogate
no_clean : (s n : ℕ) (h : History) (found : Option WireRep) → clean_of found h ≡ Err refusals.Nothing → found ≡ None
unfolding clean_of
no_clean s n h None e = refl
no_clean s n h (Some rep) e = absurd (clean_end (has_numbers rep.owner 1 h) rep e)

settles_none : (s n : ℕ) (h : History) → right_settle s n h ≡ Err refusals.Nothing → to_settle s n h ≡ None
unfolding right_settle
settles_none s n h e = no_settle s n h (to_settle s n h) e

cleans_none : (s n : ℕ) (h : History) → right_clean s n h ≡ Err refusals.Nothing → to_clean s n h ≡ None
unfolding right_clean
cleans_none s n h e = no_clean s n h (to_clean s n h) e

-- what is known and not resolved is pending, on a session that is open
pending_by : (own peer shut refused granted pending : Bool) → (own || (granted && not shut) || (not own && (not peer || shut || refused))) ≡ false → (own || ((not own && (not peer || shut || refused)) || (pending || granted || refused))) ≡ true → (pending ≡ true) × (shut ≡ false) × (peer ≡ true)
pending_by true peer shut refused granted pending a b = cc
pending_by false false shut refused granted pending a b = absurd (both_ways ((granted && not shut) || true) a (or_right (granted && not shut) true refl))
pending_by false true true refused granted pending a b = absurd (both_ways ((granted && false) || true) a (or_right (granted && false) true refl))
pending_by false true false true granted pending a b = absurd (both_ways ((granted && true) || true) a (or_right (granted && true) true refl))
pending_by false true false false true pending a b = cc
pending_by false true false false false true a b = (refl, refl, refl)
pending_by false true false false false false a b = cc

-- a message whose references are all known and that isn't resolved has one that is pending
one_pending : (s n : ℕ) (D : List Deed) (its : List RefCopy) → list_all (λ (copy : RefCopy). is_resolved s n copy.rep D) its ≡ false → AllByRecursion (λ (copy : RefCopy). is_known s n copy.rep D ≡ true) its → (rep : WireRep) × (is_pending (turns s n rep D) ≡ true) × (closed rep.owner D ≡ false) × (is_peer s n rep.owner ≡ true)
one_pending s n D [] some known = cc
one_pending s n D (copy ∷ its) some known = by (λ others. one_pending s n D its others known.1) (is_resolved s n copy.rep D) refl some
  where
    by : (list_all (λ (one : RefCopy). is_resolved s n one.rep D) its ≡ false → (rep : WireRep) × (is_pending (turns s n rep D) ≡ true) × (closed rep.owner D ≡ false) × (is_peer s n rep.owner ≡ true)) → (b : Bool) → is_resolved s n copy.rep D ≡ b → (b && list_all (λ (one : RefCopy). is_resolved s n one.rep D) its) ≡ false → (rep : WireRep) × (is_pending (turns s n rep D) ≡ true) × (closed rep.owner D ≡ false) × (is_peer s n rep.owner ≡ true)
    by others true is some = others some
    by others false is some = let those = pending_by (is_own s copy.rep) (is_peer s n copy.rep.owner) (closed copy.rep.owner D) (is_refused (turns s n copy.rep D)) (is_granted (turns s n copy.rep D)) (is_pending (turns s n copy.rep D)) is known.0 in (copy.rep, those.0, those.1, those.2)

-- where all is quiet no message waits
waits_nowhere : (n b : ℕ) (limits : ℕ → Limits) (J : List Entry) → WorldRun n limits J → Quiet n J → 1 ≤ b → b ≤ n → (ms : List Message) → AllByRecursion (λ m. is_all_resolved b n (history_at b n J) m ≡ false) ms → AllByRecursion (IsKnown b n (deeds_at b J)) ms → ms ≡ []
waits_nowhere n b limits J run quiet low high [] unresolved known = refl
waits_nowhere n b limits J run quiet low high (m ∷ ms) unresolved known =
    let one = one_pending b n (deeds_at b J) m.copies unresolved.0 known.0 in
    let out : IsHeardOut n b one.0.owner J = heard_out n b one.0.owner J (quiet.at_rest b one.0.owner one.3 (peer_back b n one.0.owner one.3 low high)) one.2 in
    absurd (none_pending n b limits one.0 J run out one.1)

none_waits : (n b : ℕ) (limits : ℕ → Limits) (J : List Entry) → WorldRun n limits J → Quiet n J → 1 ≤ b → b ≤ n → (work b n (deeds_at b J)).waiting ≡ []
none_waits n b limits J run quiet low high =
    waits_nowhere n b limits J run quiet low high (work b n (deeds_at b J)).waiting
    (nothing_found (is_all_resolved b n (history_at b n J)) (work b n (deeds_at b J)).waiting (settles_none b n (history_at b n J) (quiet.none_settles b low high)))
    (all_known b n (limits b) (deeds_at b J) (right_deeds_at n limits J run b))

-- ---- nothing has pins

settle_there : (k : ℕ) (found : Option Item) → is_in k (filter_map settle_in (cons_option found [])) ≡ true → is_settle_of k found ≡ true
settle_there k (Some (items.Settle item)) is = by (item == k) is
  where
    by : (b : Bool) → (b || false) ≡ true → b ≡ true
    by true either = refl
    by false either = cc
settle_there k None is = cc
settle_there k (Some (items.Call call target method value)) is = cc
settle_there k (Some (items.Reply call status value)) is = cc
settle_there k (Some (items.Dirty index)) is = cc
settle_there k (Some (items.DirtyOk index)) is = cc
settle_there k (Some (items.DirtyNo index)) is = cc
settle_there k (Some (items.Clean index)) is = cc

settles_push : (k : ℕ) (pairs : List (ℕ × Option Item)) (j : ℕ) (found : Option Item) → is_in k (settles_among (items_among (pairs ++ (j, found) ∷ []))) ≡ (is_in k (settles_among (items_among pairs)) || is_in k (filter_map settle_in (cons_option found [])))
settles_push k pairs j found =
    ap (λ more. is_in k (settles_among more)) (filter_map-append (λ (pair : ℕ × Option Item). pair.1) pairs ((j, found) ∷ []))
    ∙ ap (is_in k) (filter_map-append settle_in (items_among pairs) (cons_option found []))
    ∙ list_any-append (λ i. i == k) (settles_among (items_among pairs)) (filter_map settle_in (cons_option found []))

-- what stands among the Settles that were acted on is settled
in_settled : (p k : ℕ) (D : List Deed) → is_in k (settles_among (items_among (acted p D))) ≡ true → is_settled p k D ≡ true
in_settled p k [] is = cc
in_settled p k (did.Act q j ∷ D) is = by (in_settled p k D) (q == p) refl is
  where
    either : (is_in k (settles_among (items_among (acted p D))) ≡ true → is_settled p k D ≡ true) → (q == p) ≡ true → (is_in k (settles_among (items_among (acted p D))) ≡ true) ⊎ (is_in k (filter_map settle_in (cons_option (item_at p j D) [])) ≡ true) → (((q == p) && is_settle_of k (item_at q j D)) || is_settled p k D) ≡ true
    either others own (inl before) = or_right _ _ (others before)
    either others own (inr now) = or_left _ _ (and_from _ _ own (ap (λ (r : ℕ). is_settle_of k (item_at r j D)) (eqb-true q p own) ∙ settle_there k (item_at p j D) now))

    by : (is_in k (settles_among (items_among (acted p D))) ≡ true → is_settled p k D ≡ true) → (own : Bool) → (q == p) ≡ own → is_in k (settles_among (items_among (cond own (acted p D ++ (j, item_at p j D) ∷ []) (acted p D)))) ≡ true → (((q == p) && is_settle_of k (item_at q j D)) || is_settled p k D) ≡ true
    by others true own is = either others own (or_cases _ _ (sym (settles_push k (acted p D) j (item_at p j D)) ∙ is))
    by others false own is = or_right _ _ (others is)
in_settled p k (did.Open q j ∷ D) is = by (in_settled p k D) (q == p) is
  where
    by : (is_in k (settles_among (items_among (acted p D))) ≡ true → is_settled p k D ≡ true) → (own : Bool) → is_in k (settles_among (items_among (cond own [] (acted p D)))) ≡ true → cond own false (is_settled p k D) ≡ true
    by before true there = cc
    by before false there = before there
in_settled p k (deed ∷ D) is = in_settled p k D is

waits_or : (k : ℕ) (a : ℕ) (ms : List Message) (other : Bool) → ms ≡ [] → (is_waiting a k ms || other) ≡ true → other ≡ true
waits_or k a ms other none either = subst (λ (xs : List Message). (is_waiting a k xs || other) ≡ true) none either

-- where all is quiet nothing that was sent has pins
none_pinned : (n a : ℕ) (limits : ℕ → Limits) (J : List Entry) → WorldRun n limits J → Quiet n J → 1 ≤ a → a ≤ n → (one : SentItem) → IsPlaced (sent (history_at a n J)) one → is_peer a n one.to ≡ true → is_pinned (deeds_at a J) one ≡ false
none_pinned n a limits J run quiet low high one placed peer = false_from_ne_true (is_pinned (deeds_at a J) one) held
  where
    held : is_pinned (deeds_at a J) one ≡ true → ⊥
    held pinned =
        let b : ℕ = one.to in
        let k : ℕ = one.number in
        let parts = and_parts _ _ pinned in
        let some = and_parts (is_some_of (counted_in one.item) && is_of_present (deeds_at a J) one) _ parts.0 in
        let carries_it = (and_parts (is_some_of (counted_in one.item)) (is_of_present (deeds_at a J) one) some.0).0 in
        let out : IsHeardOut n a b J = heard_out n a b J (quiet.at_rest a b peer (peer_back a n b peer low high)) (not-true _ parts.1) in
        let range = peer_range a n b peer in
        let session : one.session ≡ number_at b a J = eqb-true one.session (number_at a b J) (pinned_present (deeds_at a J) one pinned) ∙ sym (out_one n a b J out) in
        let number = placed.1 in
        let place : 1 + (k - 1) ≡ k = omega (arith, number) in
        let there : slice_get (acted_from a b J) (k - 1) ≡ Some (k, Some one.item) = ap (λ pairs. slice_get pairs (k - 1)) out.acted_there ∙ numbered_at 1 (sent_to n a b J) (k - 1) one.item (ap (λ (m : ℕ). slice_get (sent_in n a b m J) (k - 1)) (sym session) ∙ placed.0) ∙ ap (λ (m : ℕ). Some (m, Some one.item)) place in
        let done = all_at (λ pair. carries_any pair.1 ≡ true → (is_waiting a pair.0 (work b n (deeds_at b J)).waiting || is_in pair.0 (settles_among (sent_now n b a J))) ≡ true) (acted_from a b J) (k - 1) (k, Some one.item) ((settled n limits J run).each a b out.open_there) there carries_it in
        let settles : is_in k (settles_among (sent_now n b a J)) ≡ true = waits_or k a (work b n (deeds_at b J)).waiting _ (none_waits n b limits J run quiet range.0 range.1) done in
        let heard_it : is_in k (settles_among (items_among (acted_from b a J))) ≡ true = ap (λ more. is_in k (settles_among more)) (all_here n a b J out) ∙ settles in
        both_ways (is_settled b k (deeds_at a J)) (not-true _ some.1) (in_settled b k (deeds_at a J) heard_it)

none_pass : {X : Type 0} (test : X → Bool) (xs : List X) → AllByRecursion (λ x. test x ≡ false) xs → filter test xs ≡ []
none_pass test [] all = refl
none_pass test (x ∷ xs) all = ap (λ (b : Bool). cond b (x ∷ filter test xs) (filter test xs)) all.0 ∙ none_pass test xs all.1

no_pins : (n a : ℕ) (limits : ℕ → Limits) (rep : WireRep) (J : List Entry) → WorldRun n limits J → Quiet n J → 1 ≤ a → a ≤ n → pins rep (history_at a n J) ≡ 0
no_pins n a limits rep J run quiet low high =
    ap (λ (ones : List SentItem). times rep (flat_map (λ (one : SentItem). counted_in one.item) ones))
    (none_pass (is_pinned (deeds_at a J)) (sent (history_at a n J))
    (all_both (IsPlaced (sent (history_at a n J))) (λ (one : SentItem). is_peer a n one.to ≡ true) (λ (one : SentItem). is_pinned (deeds_at a J) one ≡ false) (none_pinned n a limits J run quiet low high) (sent (history_at a n J)) (all_placed a n (deeds_at a J)) (sent_to_peers a n (deeds_at a J))))

-- ---- nobody is listed

-- nothing is acted on from a stranger
acted_strangers : (s n : ℕ) (limits : Limits) (p : ℕ) (D : List Deed) → AreRightDeeds s n limits D → is_peer s n p ≡ false → acted p D ≡ []
acted_strangers s n limits p [] right stranger = refl
acted_strangers s n limits p (did.Act q k ∷ D) right stranger = by (acted_strangers s n limits p D right.1 stranger) (q == p) refl
  where
    by : acted p D ≡ [] → (own : Bool) → (q == p) ≡ own → cond own (acted p D ++ (k, item_at p k D) ∷ []) (acted p D) ≡ []
    by none true own = absurd (both_ways (is_peer s n p) stranger (subst (λ (r : ℕ). is_peer s n r ≡ true) (eqb-true q p own) (act_peer s n limits q k D right.0)))
    by none false own = none
acted_strangers s n limits p (did.Open q k ∷ D) right stranger = by (q == p) (acted_strangers s n limits p D right.1 stranger)
  where
    by : (own : Bool) → acted p D ≡ [] → cond own [] (acted p D) ≡ []
    by true none = refl
    by false none = none
acted_strangers s n limits p (deed ∷ D) right stranger = acted_strangers s n limits p D right.1 stranger

-- whoever asked is a peer
asker_peer : (s n : ℕ) (limits : Limits) (c x : ℕ) (D : List Deed) → AreRightDeeds s n limits D → last_or false (asks_among x (items_among (acted c D))) ≡ true → is_peer s n c ≡ true
asker_peer s n limits c x D right asks = by (is_peer s n c) refl
  where
    none : is_peer s n c ≡ false → ⊥
    none stranger = (let clash : false ≡ true = subst (λ pairs. last_or false (asks_among x (items_among pairs)) ≡ true) (acted_strangers s n limits c D right stranger) asks in cc)

    by : (b : Bool) → is_peer s n c ≡ b → is_peer s n c ≡ true
    by true peer = peer
    by false stranger = absurd (none stranger)

found_same : (test : WireRep → Bool) (rep : WireRep) (reps : List WireRep) → test rep ≡ true → list_any (is_same rep) reps ≡ true → find test reps ≡ None → ⊥
found_same test rep [] passes there none = cc
found_same test rep (other ∷ reps) passes there none = by (found_same test rep reps passes) (is_same rep other) refl there (test other) refl none
  where
    by : (list_any (is_same rep) reps ≡ true → find test reps ≡ None → ⊥) → (same : Bool) → is_same rep other ≡ same → (same || list_any (is_same rep) reps) ≡ true → (b : Bool) → test other ≡ b → cond b (Some other) (find test reps) ≡ None → ⊥
    by others same is there true passing none = none_some other (sym none)
    by others true is there false fails none = both_ways (test other) fails (ap test (sym (same_ref rep other is)) ∙ passes)
    by others false is there false fails none = others there none

held_by : (held own one here there : Bool) → (held && (own || (one && (not here && not there)))) ≡ false → one ≡ true → here ≡ false → there ≡ false → held ≡ false
held_by true own one here there none is a b =
    let open_both : (one && (not here && not there)) ≡ true = and_from one (not here && not there) is (and_from (not here) (not there) (not_from_false here a) (not_from_false there b)) in
    absurd (both_ways (own || (one && (not here && not there))) none (or_right own (one && (not here && not there)) open_both))
held_by false own one here there none is a b = refl

-- where all is quiet nobody is listed for an object that no space can use
none_listed : (n : ℕ) (limits : ℕ → Limits) (J : List Entry) → WorldRun n limits J → Quiet n J → (o x : ℕ) → 1 ≤ o → o ≤ n → ((c : ℕ) → 1 ≤ c → c ≤ n → can_use n c (own_ref o x) J ≡ false) → (c : ℕ) → is_listed o x c (deeds_at o J) ≡ true → ⊥
none_listed n limits J run quiet o x low high unused c listed =
    let rep : WireRep = own_ref o x in
    let parts = and_parts (not (closed c (deeds_at o J))) (is_entered o x c (deeds_at o J)) listed in
    let entered = and_parts (last_or false (was_asked o c x J)) (is_yes (last_word said.Pending (gave n o c x J))) (sym ((owners n limits J run).entered o c x) ∙ parts.1) in
    let peer : is_peer o n c ≡ true = asker_peer o n (limits o) c x (deeds_at o J) (right_deeds_at n limits J run o) entered.0 in
    let range = peer_range o n c peer in
    let back : is_peer c n o ≡ true = peer_back o n c peer low high in
    let there : IsHeardOut n o c J = heard_out n o c J (quiet.at_rest o c peer back) (not-true _ parts.0) in
    let out : IsHeardOut n c o J = record { in_one = eq-eqb (number_at c o J) (number_at o c J) (out_one n o c J there); open_here = there.open_there; open_there = there.open_here; acted_there = there.acted_here; acted_here = there.acted_there } in
    let asks : last_or false (asked n c rep J) ≡ true = ap (last_or false) (sym (asked_out n c o x J out)) ∙ entered.0 in
    let each : length (gave n o c x J) ≡ dirties_in (was_asked o c x J) = ((owners n limits J run).answered o c x).each in
    let same : length (heard c rep J) ≡ dirties_in (asked n c rep J) = ap length (heard_all n c o x J out) ∙ each ∙ ap dirties_in (asked_out n c o x J out) in
    let yes : is_yes (last_word said.Pending (heard c rep J)) ≡ true = ap (λ bs. is_yes (last_word said.Pending bs)) (heard_all n c o x J out) ∙ entered.1 in
    let granted : is_granted (turns c n rep (deeds_at c J)) ≡ true = ap is_granted ((clients n limits J run).turns_are c rep) ∙ and_from _ _ (and_from _ _ asks (eq-eqb (length (heard c rep J)) (dirties_in (asked n c rep J)) same)) yes in
    let usable : is_usable c n rep (deeds_at c J) ≡ true = and_from _ _ granted (not_from_false _ out.open_here) in
    let unheld : is_held c rep (history_at c n J) ≡ false = held_by (is_held c rep (history_at c n J)) (is_own c rep) (are_in_one c o J) (closed_at c o J) (closed_at o c J) (unused c range.0 range.1) out.in_one out.open_here out.open_there in
    let idle : is_idle c n (history_at c n J) rep ≡ true = and_from _ _ (and_from _ _ usable (not_from_false _ unheld)) (eq-eqb (pins rep (history_at c n J)) 0 (no_pins n c limits rep J run quiet range.0 range.1)) in
    found_same (is_idle c n (history_at c n J)) rep (by_last_dirty (history_at c n J)) idle (stands_last c n rep (deeds_at c J) asks)
    (cleans_none c n (history_at c n J) (quiet.none_cleans c range.0 range.1))

-- ---- so it can be withdrawn

free_withdrawn : (s index : ℕ) (h : History) → (index == 0) ≡ false → is_live s index h.deeds ≡ true → is_held s (own_ref s index) h ≡ false → (pins (own_ref s index) h == 0) ≡ true → is_any_listed s index h.deeds ≡ false → right_withdraw s index h ≡ Ok answers.Withdrawn
unfolding right_withdraw withdraw_refused
free_withdrawn s index h counted alive unheld unpinned unlisted = rw (counted, alive, unheld, unpinned, unlisted) refl

-- a live object isn't the agent
live_counted : (n : ℕ) (limits : ℕ → Limits) (J : List Entry) → WorldRun n limits J → (o x : ℕ) → is_live o x (deeds_at o J) ≡ true → (x == 0) ≡ false
live_counted n limits J run o x alive =
    let known : is_exported o x (deeds_at o J) ≡ true = (and_parts _ _ alive).0 in
    let low = leb-true 1 x (and_parts _ _ (sym (exported o n (limits o) (deeds_at o J) (right_deeds_at n limits J run o) x) ∙ known)).0 in
    ne_eqb x 0 (λ none. omega (arith, low, none))

-- an owner is one of the spaces
owner_range : (n : ℕ) (limits : ℕ → Limits) (J : List Entry) → WorldRun n limits J → (o x : ℕ) → is_live o x (deeds_at o J) ≡ true → (1 ≤ o) × (o ≤ n)
owner_range n limits J run o x alive = by (in_range n limits J run o)
  where
    by : (deeds_at o J ≡ []) ⊎ ((1 ≤ o) × (o ≤ n)) → (1 ≤ o) × (o ≤ n)
    by (inl none) = absurd (let clash : false ≡ true = subst (λ D. is_live o x D ≡ true) none alive in cc)
    by (inr range) = range

own_held : (held own rest : Bool) → own ≡ true → (held && (own || rest)) ≡ false → held ≡ false
own_held true true rest is none = none
own_held true false rest is none = cc
own_held false own rest is none = refl

-- in every run of a world no object leaks
pub leaks : LeaksLaw
leaks n limits J run quiet o x alive unused =
    let range = owner_range n limits J run o x alive in
    free_withdrawn o x (history_at o n J) (live_counted n limits J run o x alive) alive
    (own_held (is_held o (own_ref o x) (history_at o n J)) (is_own o (own_ref o x)) (both_open o o J) (eq-eqb o o refl) (unused o range.0 range.1))
    (eq-eqb (pins (own_ref o x) (history_at o n J)) 0 (no_pins n o limits (own_ref o x) J run quiet range.0 range.1))
    (false_from_ne_true (is_any_listed o x (deeds_at o J)) (λ any. let one = any_listed o x (deeds_at o J) any in none_listed n limits J run quiet o x range.0 range.1 unused one.0 one.1))
