-- Objects that are in use are live: those that somebody is listed for, and those that are pinned.
use Rattle.std.proofs.Common.{◌≡◌, ℕ, ◌&&◌, ◌||◌, not, Bool, true, false, cond, List, [], ◌∷◌, ◌++◌, length, map, filter, find, flat_map, Option, Some, None, refl, sym, ap, subst, ◌∙◌, arith}
use Rattle.std.specs.Prelude.{◌==◌}
use Rattle.std.specs.List.{AllByRecursion}
use Rattle.std.proofs.lemmas.List.Folds.{list_any-append}
use Rattle.std.proofs.lemmas.Bool.{eqb-true, and_parts, and_from, or_left, both_ways, eq-eqb}
use Rattle.nob_ids.specs.Names.{is_same}
use Rattle.nob_ids.specs.declared.limits.Limits.{Limits}
use Rattle.nob_ids.specs.declared.wire_rep.WireRep.{WireRep}
use Rattle.nob_item.specs.declared.item.Item.{Item}
use Rattle.nob_item.specs.declared.item.Item.TheVariants as items
use Rattle.nob_model_types.specs.declared.deed.Deed.{Deed}
use Rattle.nob_model_types.specs.declared.deed.Deed.TheVariants as did
use Rattle.nob_model_types.specs.Sessions.{closed, item_at}
use Rattle.nob_model_types.specs.Objects.{exports, is_exported, is_withdrawn, is_live}
use Rattle.nob_model_history.specs.Histories.{history_of}
use Rattle.nob_model_history.specs.Listing.{is_entered, is_entered_after, is_listed, is_any_listed}
use Rattle.nob_model_history.proofs.Listed.{listed_any}
use Rattle.nob_model.specs.Right.{right_after}
use Rattle.nob_model.specs.Lists.{IsRightDeed, AreRightDeeds}
use Rattle.nob_model.specs.Laws.{ListedLaw, PinnedLaw}
use Rattle.nob_model.proofs.Doing.{was_answered}
use Rattle.nob_model.proofs.Accepted.{withdraw_tells}
use Rattle.nob_ids.specs.Names.{is_counted}
use Rattle.nob_pickle.specs.Spelling.{refs_in}
use Rattle.nob_pickle.specs.declared.value.Value.{Value}
use Rattle.nob_item.specs.Kinds.{counted_in}
use Rattle.nob_model_types.specs.declared.event.Outcome.{Outcome}
use Rattle.nob_model_types.specs.declared.refusal.Refusal.{Refusal}
use Rattle.nob_model_types.specs.declared.refusal.Refusal.TheVariants as refusals
use Rattle.nob_model_types.specs.declared.message.Message.{Message}
use Rattle.nob_model_types.specs.Sessions.{is_peer}
use Rattle.nob_model_types.specs.Turns.{is_own, turns}
use Rattle.nob_model_types.specs.Messages.{is_of, is_lost_message}
use Rattle.nob_model_work.specs.declared.gifts.Gift.{Gift}
use Rattle.nob_model_work.specs.declared.work.Run.{Run}
use Rattle.nob_model_work.specs.Work.{work}
use Rattle.nob_model_work.specs.Gifts.{dirty_for, dirties_for, answer_to, gifts_of_act, lost_call_reply, gifts_of_settle, value_of, reply_to, gifts_of_finish, gifts_of, gifts}
use Rattle.nob_model_history.specs.declared.history.History.{History}
use Rattle.nob_model_history.specs.declared.transit.SentItem.{SentItem}
use Rattle.nob_model_history.specs.Holds.{times}
use Rattle.nob_model_history.specs.Transit.{next_sent, sent, is_settle_of, is_settled, is_some_of, is_of_present, is_pinned, bundles, pinned, pins}
use Rattle.nob_model_history.proofs.Sending.{new_items}
use Rattle.nob_model_history.proofs.Pinning.{bundles_more}
use Rattle.nob_model_history.proofs.Sessions.{opens, number_kept}
use Rattle.nob_model_history.proofs.Turning.{same_ref}
use Rattle.nob_model_acting.specs.Sending.{◌or_else◌, refuse_if, is_gone, ref_refused, refs_refused, value_refused}
use Rattle.nob_model.specs.Right.{own_ref}
use Rattle.nob_model.proofs.Accepted.{call_tells, finish_tells}
use Rattle.nob_model.proofs.Calling.{refused_none}
use Rattle.nob_model.proofs.Reopening.{opened_each}
use Rattle.nob_model.proofs.Waiting.{all_weaker, all_filter}

-- what is live stays so by an Export
pub live_stays : (s index : ℕ) (rep : WireRep) (D : List Deed) → is_live s index D ≡ true → is_live s index (did.Export rep ∷ D) ≡ true
live_stays s index rep D alive =
    let parts = and_parts (is_exported s index D) (not (is_withdrawn index D)) alive in
    and_from (is_exported s index (did.Export rep ∷ D)) (not (is_withdrawn index D)) (list_any-append (is_same (record { owner = s; index = index })) (exports D) (rep ∷ []) ∙ or_left _ _ parts.0) parts.1

without_step : (s index x : ℕ) (D : List Deed) → is_live s index D ≡ true → (b : Bool) → (x == index) ≡ b → (b ≡ true → ⊥) → (is_exported s index D && not (b || is_withdrawn index D)) ≡ true
without_step s index x D alive true is other = absurd (other refl)
without_step s index x D alive false is other = alive

-- what is live stays so by a Withdraw of another object
pub live_without : (s index x : ℕ) (D : List Deed) → is_live s index D ≡ true → ((x == index) ≡ true → ⊥) → is_live s index (did.Withdraw x ∷ D) ≡ true
live_without s index x D alive other = without_step s index x D alive (x == index) refl other

-- nobody is listed for an object that is withdrawn
withdrawn_unlisted : (s n : ℕ) (limits : Limits) (x : ℕ) (D : List Deed) → IsRightDeed s n limits (did.Withdraw x) D → is_any_listed s x D ≡ false
unfolding right_after
withdrawn_unlisted s n limits x D right = (withdraw_tells s x (history_of s n D) (was_answered s n limits (did.Withdraw x) D right)).4

entered_if : (s index x : ℕ) (D : List Deed) (before : Bool) (b : Bool) → (before ≡ true → is_live s index D ≡ true) → (x == index) ≡ b → cond b (is_live s x D) before ≡ true → is_live s index D ≡ true
entered_if s index x D before true alive is entered = subst (λ (i : ℕ). is_live s i D ≡ true) (eqb-true x index is) entered
entered_if s index x D before false alive is entered = alive entered

cleaned_if : (G : Type 0) (b before : Bool) → (before ≡ true → G) → cond b false before ≡ true → G
cleaned_if G true before alive entered = cc
cleaned_if G false before alive entered = alive entered

-- after an item from a client it is listed only for what is live
entered_live : (s index : ℕ) (found : Option Item) (D : List Deed) (before : Bool) → (before ≡ true → is_live s index D ≡ true) → is_entered_after s index found D before ≡ true → is_live s index D ≡ true
entered_live s index None D before alive entered = alive entered
entered_live s index (Some (items.Call call target method value)) D before alive entered = alive entered
entered_live s index (Some (items.Reply call status value)) D before alive entered = alive entered
entered_live s index (Some (items.Settle item)) D before alive entered = alive entered
entered_live s index (Some (items.Dirty x)) D before alive entered = entered_if s index x D before (x == index) alive refl entered
entered_live s index (Some (items.DirtyOk x)) D before alive entered = alive entered
entered_live s index (Some (items.DirtyNo x)) D before alive entered = alive entered
entered_live s index (Some (items.Clean x)) D before alive entered = cleaned_if (is_live s index D ≡ true) (x == index) before alive entered

acted_live : (s index c p k : ℕ) (D : List Deed) → (is_entered s index c D ≡ true → is_live s index D ≡ true) → (b : Bool) → cond b (is_entered_after s index (item_at p k D) D (is_entered s index c D)) (is_entered s index c D) ≡ true → is_live s index D ≡ true
acted_live s index c p k D before true entered = entered_live s index (item_at p k D) D (is_entered s index c D) before entered
acted_live s index c p k D before false entered = before entered

closing_unlisted : (ends before entered : Bool) → (not (ends || before) && entered) ≡ true → (not before && entered) ≡ true
closing_unlisted true before entered e = cc
closing_unlisted false before entered e = e

opened_listed : (b shut entered : Bool) → (not (cond b false shut) && cond b false entered) ≡ true → (not shut && entered) ≡ true
opened_listed true shut entered e = cc
opened_listed false shut entered e = e

-- in a list of right deeds whoever is listed is listed for a live object
pub listed_law : ListedLaw
listed_law s n limits [] right index c listed = cc
listed_law s n limits (did.Act p k ∷ D) right index c listed =
    let parts = and_parts (not (closed c D)) _ listed in
    acted_live s index c p k D (λ entered. listed_law s n limits D right.1 index c (and_from (not (closed c D)) (is_entered s index c D) parts.0 entered)) (p == c) parts.1
listed_law s n limits (did.Withdraw x ∷ D) right index c listed =
    live_without s index x D (listed_law s n limits D right.1 index c listed)
    (λ same. both_ways (is_any_listed s x D) (withdrawn_unlisted s n limits x D right.0) (listed_any s x c D (subst (λ (i : ℕ). is_listed s i c D ≡ true) (sym (eqb-true x index same)) listed)))
listed_law s n limits (did.Export rep ∷ D) right index c listed = live_stays s index rep D (listed_law s n limits D right.1 index c listed)
listed_law s n limits (did.Closing p reason cause ∷ D) right index c listed = listed_law s n limits D right.1 index c (closing_unlisted (p == c) (closed c D) (is_entered s index c D) listed)
listed_law s n limits (did.Open p k ∷ D) right index c listed = listed_law s n limits D right.1 index c (opened_listed (p == c) (closed c D) (is_entered s index c D) listed)
listed_law s n limits (deed ∷ D) right index c listed = listed_law s n limits D right.1 index c listed

-- ---- pins

-- a reference, if it is to an own object, is to a live one
abbrev pub IsGuarded : (s : ℕ) → List Deed → WireRep → Type 0
IsGuarded s D rep = is_own s rep ≡ true → is_live s rep.index D ≡ true

-- each counted reference of an item is, if it is to an own object, to a live one
abbrev pub GuardsItem : (s : ℕ) → List Deed → Item → Type 0
GuardsItem s D item = AllByRecursion (IsGuarded s D) (counted_in item)

no_first : (test : Bool) (refusal : Refusal) (rest : Option Refusal) → (refuse_if test refusal or_else rest) ≡ None → test ≡ false
no_first true refusal rest e = absurd (refused_none refusal e)
no_first false refusal rest e = refl

first_none : (a b : Option Refusal) → (a or_else b) ≡ None → (a ≡ None) × (b ≡ None)
first_none (Some refusal) b e = absurd (refused_none refusal e)
first_none None b e = (refl, e)

own_live : (own alive : Bool) → (own && not alive) ≡ false → own ≡ true → alive ≡ true
own_live true true none is = refl
own_live true false none is = cc
own_live false alive none is = cc

-- references that may be sent are guarded
refs_guarded : (s : ℕ) (D : List Deed) (h : History) → h.deeds ≡ D → (reps : List WireRep) → refs_refused s h reps ≡ None → AllByRecursion (IsGuarded s D) reps
refs_guarded s D h is [] none = tt
refs_guarded s D h is (rep ∷ reps) none =
    let parts = first_none (ref_refused s h rep) (refs_refused s h reps) none in
    (λ own. ap (is_live s rep.index) (sym is) ∙ own_live (is_own s rep) (is_live s rep.index h.deeds) (no_first (is_gone s rep h) refusals.NoObject _ parts.0) own, refs_guarded s D h is reps parts.1)

-- the counted references of a value that may be sent are guarded
value_guarded : (s n : ℕ) (value : Value) (D : List Deed) → value_refused s (history_of s n D) value ≡ None → AllByRecursion (IsGuarded s D) (filter is_counted (refs_in value))
value_guarded s n value D none = refs_guarded s D (history_of s n D) refl (filter is_counted (refs_in value)) (first_none _ _ none).1

-- each of these gifts is guarded
abbrev pub AreGuarded : (s : ℕ) → List Deed → List Gift → Type 0
AreGuarded s D more = AllByRecursion (λ (gift : Gift). GuardsItem s D gift.item) more

reply_guarded : (s n p : ℕ) (item : Item) (outcome : Outcome) (D : List Deed) → value_refused s (history_of s n D) (value_of outcome) ≡ None → AreGuarded s D (reply_to p item outcome)
unfolding reply_to
reply_guarded s n p (items.Call call target method value) outcome D none = (value_guarded s n (value_of outcome) D none, tt)
reply_guarded s n p (items.Reply call status value) outcome D none = tt
reply_guarded s n p (items.Settle item) outcome D none = tt
reply_guarded s n p (items.Dirty index) outcome D none = tt
reply_guarded s n p (items.DirtyOk index) outcome D none = tt
reply_guarded s n p (items.DirtyNo index) outcome D none = tt
reply_guarded s n p (items.Clean index) outcome D none = tt

lost_guarded : (s p : ℕ) (item : Item) (lost : Bool) (D : List Deed) → AreGuarded s D (lost_call_reply p item lost)
unfolding lost_call_reply
lost_guarded s p (items.Call call target method value) true D = (tt, tt)
lost_guarded s p (items.Call call target method value) false D = tt
lost_guarded s p (items.Reply call status value) lost D = tt
lost_guarded s p (items.Settle item) lost D = tt
lost_guarded s p (items.Dirty index) lost D = tt
lost_guarded s p (items.DirtyOk index) lost D = tt
lost_guarded s p (items.DirtyNo index) lost D = tt
lost_guarded s p (items.Clean index) lost D = tt

settle_guarded : (s n p k : ℕ) (D : List Deed) (found : Option Message) → AreGuarded s D (gifts_of_settle s n p k D found)
unfolding gifts_of_settle
settle_guarded s n p k D None = tt
settle_guarded s n p k D (Some message) = (tt, lost_guarded s p message.item (is_lost_message s n D message) D)

dirties_guarded : (s : ℕ) (D : List Deed) (reps : List WireRep) → AreGuarded s D (map dirty_for reps)
unfolding dirty_for
dirties_guarded s D [] = tt
dirties_guarded s D (rep ∷ reps) = (tt, dirties_guarded s D reps)

answer_guarded : (s p index : ℕ) (D : List Deed) (alive known : Bool) → AreGuarded s D (cond alive (record { to = p; item = items.DirtyOk index } ∷ []) (cond known (record { to = p; item = items.DirtyNo index } ∷ []) []))
answer_guarded s p index D true known = (tt, tt)
answer_guarded s p index D false true = (tt, tt)
answer_guarded s p index D false false = tt

act_guarded : (s n p : ℕ) (D : List Deed) (found : Option Item) → AreGuarded s D (gifts_of_act s n p D found)
unfolding gifts_of_act answer_to dirties_for
act_guarded s n p D None = tt
act_guarded s n p D (Some (items.Call call target method value)) = dirties_guarded s D _
act_guarded s n p D (Some (items.Reply call status value)) = dirties_guarded s D _
act_guarded s n p D (Some (items.Settle item)) = tt
act_guarded s n p D (Some (items.Dirty index)) = answer_guarded s p index D (is_live s index D) (is_exported s index D)
act_guarded s n p D (Some (items.DirtyOk index)) = tt
act_guarded s n p D (Some (items.DirtyNo index)) = tt
act_guarded s n p D (Some (items.Clean index)) = tt

clean_guarded : (s : ℕ) (rep : WireRep) (D : List Deed) (asks : Bool) → AreGuarded s D (cond asks (record { to = rep.owner; item = items.Clean rep.index } ∷ []) [])
clean_guarded s rep D true = (tt, tt)
clean_guarded s rep D false = tt

-- what a right deed gives is guarded
pub gifts_guarded : (s n : ℕ) (limits : Limits) (deed : Deed) (D : List Deed) → IsRightDeed s n limits deed D → AreGuarded s D (gifts_of s n deed D (work s n D))
unfolding right_after gifts_of gifts_of_finish
gifts_guarded s n limits (did.Call target method value call) D right = (value_guarded s n value D (call_tells s n target value call (history_of s n D) (was_answered s n limits (did.Call target method value call) D right)).4, tt)
gifts_guarded s n limits (did.Finish job outcome) D right =
    let told = finish_tells s job outcome (history_of s n D) (was_answered s n limits (did.Finish job outcome) D right) in
    subst (λ (found : Option Run). AreGuarded s D (gifts_of_finish outcome found)) (sym told.1) (reply_guarded s n told.0.message.from told.0.message.item outcome D told.3)
gifts_guarded s n limits (did.Act p k) D right = act_guarded s n p D (item_at p k D)
gifts_guarded s n limits (did.Settle p k) D right = settle_guarded s n p k D (find (is_of p k) (work s n D).waiting)
gifts_guarded s n limits (did.Clean rep) D right = clean_guarded s rep D (turns s n rep D).asks
gifts_guarded s n limits deed D right = tt

-- ---- bundles that are guarded

-- each reference of each bundle is guarded
abbrev pub BundlesGuarded : (s : ℕ) → List Deed → List SentItem → Type 0
BundlesGuarded s D sent_items = AllByRecursion (λ (one : SentItem). GuardsItem s D one.item) sent_items

new_guarded : (s : ℕ) (D older : List Deed) (more : List Gift) (before : List SentItem) → AreGuarded s D more → BundlesGuarded s D (new_items older before more)
new_guarded s D older [] before are = tt
new_guarded s D older (gift ∷ more) before are = (are.0, new_guarded s D older more (before ++ next_sent older before gift ∷ []) are.1)

narrow_if : {A : Type 0} (P : A → Type 0) (a b : Bool) (x : A) (less more : List A) → (a ≡ true → b ≡ true) → (AllByRecursion P more → AllByRecursion P less) → AllByRecursion P (cond b (x ∷ more) more) → AllByRecursion P (cond a (x ∷ less) less)
narrow_if P true true x less more narrow rest all = (all.0, rest all.1)
narrow_if P true false x less more narrow rest all = absurd (both_ways false refl (narrow refl))
narrow_if P false true x less more narrow rest all = rest all.1
narrow_if P false false x less more narrow rest all = rest all

-- what passes a narrower test has what all have that pass the wider one
narrower : {A : Type 0} (P : A → Type 0) (narrow wide : A → Bool) (xs : List A) → AllByRecursion (λ (x : A). narrow x ≡ true → wide x ≡ true) xs → AllByRecursion P (filter wide xs) → AllByRecursion P (filter narrow xs)
narrower P narrow wide [] less all = tt
narrower P narrow wide (x ∷ xs) less all = narrow_if P (narrow x) (wide x) x (filter narrow xs) (filter wide xs) less.0 (narrower P narrow wide xs less.1) all

all_append : {A : Type 0} (P : A → Type 0) (xs ys : List A) → AllByRecursion P xs → AllByRecursion P ys → AllByRecursion P (xs ++ ys)
all_append P [] ys all more = more
all_append P (x ∷ xs) ys all more = (all.0, all_append P xs ys all.1 more)

settled_earlier : (now before : Bool) → before ≡ true → (now || before) ≡ true
settled_earlier true before is = refl
settled_earlier false before is = is

-- what was settled or closed stays so, unless its session opens anew
settled_stays : (p k : ℕ) (deed : Deed) (D : List Deed) → opens p deed ≡ false → is_settled p k D ≡ true → is_settled p k (deed ∷ D) ≡ true
settled_stays p k (did.Act q j) D other is = settled_earlier (q == p && is_settle_of k (item_at q j D)) (is_settled p k D) is
settled_stays p k (did.Open q j) D other is = ap (λ (b : Bool). cond b false (is_settled p k D)) other ∙ is
settled_stays p k deed D other is = is

closed_stays : (p : ℕ) (deed : Deed) (D : List Deed) → opens p deed ≡ false → closed p D ≡ true → closed p (deed ∷ D) ≡ true
closed_stays p (did.Closing q reason cause) D other is = settled_earlier (q == p) (closed p D) is
closed_stays p (did.Open q k) D other is = ap (λ (b : Bool). cond b false (closed p D)) other ∙ is
closed_stays p deed D other is = is

-- what is of the present session after such a deed was so before
present_earlier : (deed : Deed) (D : List Deed) (one : SentItem) → opens one.to deed ≡ false → is_of_present (deed ∷ D) one ≡ true → is_of_present D one ≡ true
present_earlier deed D one other is = ap (λ (k : ℕ). one.session == k) (sym (number_kept one.to deed D other)) ∙ is

pinned_step : (some present settled shut present_now settled_now shut_now : Bool) → (present_now ≡ true → present ≡ true) → (settled ≡ true → settled_now ≡ true) → (shut ≡ true → shut_now ≡ true) → (some && present_now && not settled_now && not shut_now) ≡ true → (some && present && not settled && not shut) ≡ true
pinned_step some present settled shut present_now settled_now shut_now earlier more further is =
    let parts = and_parts (some && present_now && not settled_now) (not shut_now) is in
    let first = and_parts (some && present_now) (not settled_now) parts.0 in
    let base = and_parts some present_now first.0 in
    and_from (some && present && not settled) (not shut)
    (and_from (some && present) (not settled) (and_from some present base.0 (earlier base.1)) (still settled settled_now more first.1))
    (still shut shut_now further parts.1)
  where
    still : (before now : Bool) → (before ≡ true → now ≡ true) → not now ≡ true → not before ≡ true
    still false now more is = refl
    still true false more is = absurd (both_ways false refl (more refl))
    still true true more is = cc

-- what has pins after such a deed had them before
pinned_kept : (deed : Deed) (D : List Deed) (one : SentItem) → opens one.to deed ≡ false → is_pinned (deed ∷ D) one ≡ true → is_pinned D one ≡ true
pinned_kept deed D one other is =
    pinned_step (is_some_of (counted_in one.item)) (is_of_present D one) (is_settled one.to one.number D) (closed one.to D)
    (is_of_present (deed ∷ D) one) (is_settled one.to one.number (deed ∷ D)) (closed one.to (deed ∷ D))
    (present_earlier deed D one other) (settled_stays one.to one.number deed D other) (closed_stays one.to deed D other) is

-- what was sent and has pins after a deed had them before
abbrev pub WerePinned : Deed → List Deed → List SentItem → Type 0
WerePinned deed D sent_items = AllByRecursion (λ (one : SentItem). is_pinned (deed ∷ D) one ≡ true → is_pinned D one ≡ true) sent_items

were_pinned : (deed : Deed) (D : List Deed) → ((p : ℕ) → opens p deed ≡ false) → (sent_items : List SentItem) → WerePinned deed D sent_items
were_pinned deed D none [] = tt
were_pinned deed D none (one ∷ sent_items) = (pinned_kept deed D one (none one.to), were_pinned deed D none sent_items)

-- so it is with every right deed
pub pinned_earlier : (s n : ℕ) (limits : Limits) (deed : Deed) (D : List Deed) → AreRightDeeds s n limits (deed ∷ D) → WerePinned deed D (sent (history_of s n D))
pinned_earlier s n limits (did.Open p k) D right = opened_each s n limits p k D right
pinned_earlier s n limits deed D right = were_pinned deed D (λ p. refl) (sent (history_of s n D))

-- ---- one deed more

-- the bundles by one deed more, if those before and what the deed gave are guarded
guarded_more : (s n : ℕ) (deed : Deed) (D : List Deed) → WerePinned deed D (sent (history_of s n D)) → BundlesGuarded s (deed ∷ D) (bundles (history_of s n D)) → AreGuarded s (deed ∷ D) (gifts_of s n deed D (work s n D)) → BundlesGuarded s (deed ∷ D) (bundles (history_of s n (deed ∷ D)))
unfolding gifts
guarded_more s n deed D earlier before new =
    let P : SentItem → Type 0 = λ (one : SentItem). GuardsItem s (deed ∷ D) one.item in
    let more : List Gift = filter (λ (gift : Gift). is_peer s n gift.to) (gifts_of s n deed D (work s n D)) in
    subst (BundlesGuarded s (deed ∷ D)) (sym (bundles_more s n deed D))
    (all_append P (filter (is_pinned (deed ∷ D)) (sent (history_of s n D))) (filter (is_pinned (deed ∷ D)) (new_items D (sent (history_of s n D)) more))
    (narrower P (is_pinned (deed ∷ D)) (is_pinned D) (sent (history_of s n D)) earlier before)
    (all_filter P (is_pinned (deed ∷ D)) (new_items D (sent (history_of s n D)) more) (new_guarded s (deed ∷ D) D more (sent (history_of s n D)) (all_filter (λ (gift : Gift). GuardsItem s (deed ∷ D) gift.item) (λ (gift : Gift). is_peer s n gift.to) (gifts_of s n deed D (work s n D)) new))))

-- a deed leaves what is live
abbrev pub LeavesLive : (s : ℕ) → Deed → List Deed → Type 0
LeavesLive s deed D = (index : ℕ) → is_live s index D ≡ true → is_live s index (deed ∷ D) ≡ true

item_later : (s : ℕ) (deed : Deed) (D : List Deed) → LeavesLive s deed D → (item : Item) → GuardsItem s D item → GuardsItem s (deed ∷ D) item
item_later s deed D leaves item are = all_weaker (IsGuarded s D) (IsGuarded s (deed ∷ D)) (λ rep is own. leaves rep.index (is own)) (counted_in item) are

leaving : (s n : ℕ) (limits : Limits) (deed : Deed) (D : List Deed) → AreRightDeeds s n limits (deed ∷ D) → LeavesLive s deed D → BundlesGuarded s D (bundles (history_of s n D)) → BundlesGuarded s (deed ∷ D) (bundles (history_of s n (deed ∷ D)))
leaving s n limits deed D right leaves before =
    guarded_more s n deed D (pinned_earlier s n limits deed D right)
    (all_weaker (λ (one : SentItem). GuardsItem s D one.item) (λ (one : SentItem). GuardsItem s (deed ∷ D) one.item) (λ one are. item_later s deed D leaves one.item are) (bundles (history_of s n D)) before)
    (all_weaker (λ (gift : Gift). GuardsItem s D gift.item) (λ (gift : Gift). GuardsItem s (deed ∷ D) gift.item) (λ gift are. item_later s deed D leaves gift.item are) (gifts_of s n deed D (work s n D)) (gifts_guarded s n limits deed D right.0))

all_first : {A : Type 0} (P : A → Type 0) (xs ys : List A) → AllByRecursion P (xs ++ ys) → AllByRecursion P xs
all_first P [] ys all = tt
all_first P (x ∷ xs) ys all = (all.0, all_first P xs ys all.1)

all_second : {A : Type 0} (P : A → Type 0) (xs ys : List A) → AllByRecursion P (xs ++ ys) → AllByRecursion P ys
all_second P [] ys all = all
all_second P (x ∷ xs) ys all = all_second P xs ys all.1

-- what all that a list leads to have, and what all that each of it leads to have
all_nested : {A B : Type 0} (P : B → Type 0) (f : A → List B) (xs : List A) → AllByRecursion P (flat_map f xs) → AllByRecursion (λ (x : A). AllByRecursion P (f x)) xs
all_nested P f [] all = tt
all_nested P f (x ∷ xs) all = (all_first P (f x) (flat_map f xs) all, all_nested P f xs (all_second P (f x) (flat_map f xs) all))

all_flat : {A B : Type 0} (P : B → Type 0) (f : A → List B) (xs : List A) → AllByRecursion (λ (x : A). AllByRecursion P (f x)) xs → AllByRecursion P (flat_map f xs)
all_flat P f [] all = tt
all_flat P f (x ∷ xs) all = all_append P (f x) (flat_map f xs) all.0 (all_flat P f xs all.1)

unlike_step : (rep other : WireRep) (b : Bool) (same : List WireRep) → is_same rep other ≡ b → length (cond b (other ∷ same) same) ≡ 0 → (is_same rep other ≡ false) × (length same ≡ 0)
unlike_step rep other true same is none = absurd (omega (arith, none))
unlike_step rep other false same is none = (is, none)

-- a reference that doesn't stand among some is none of them
unlike_all : (rep : WireRep) (reps : List WireRep) → times rep reps ≡ 0 → AllByRecursion (λ (other : WireRep). is_same rep other ≡ false) reps
unlike_all rep [] none = tt
unlike_all rep (other ∷ reps) none = let parts = unlike_step rep other (is_same rep other) (filter (is_same rep) reps) refl none in (parts.0, unlike_all rep reps parts.1)

-- no bundle names an object that is withdrawn
withdrawn_unpinned : (s n : ℕ) (limits : Limits) (x : ℕ) (D : List Deed) → IsRightDeed s n limits (did.Withdraw x) D → AllByRecursion (λ (one : SentItem). AllByRecursion (λ (other : WireRep). is_same (own_ref s x) other ≡ false) (counted_in one.item)) (bundles (history_of s n D))
unfolding right_after
withdrawn_unpinned s n limits x D right =
    all_nested (λ (other : WireRep). is_same (own_ref s x) other ≡ false) (λ (one : SentItem). counted_in one.item) (bundles (history_of s n D))
    (unlike_all (own_ref s x) (pinned (history_of s n D)) (eqb-true (pins (own_ref s x) (history_of s n D)) 0 (withdraw_tells s x (history_of s n D) (was_answered s n limits (did.Withdraw x) D right)).3))

without_ref : (s x : ℕ) (D : List Deed) (rep : WireRep) → is_same (own_ref s x) rep ≡ false → IsGuarded s D rep → IsGuarded s (did.Withdraw x ∷ D) rep
without_ref s x D rep unlike is own = live_without s rep.index x D (is own) (λ same. both_ways (is_same (own_ref s x) rep) unlike (and_from (s == rep.owner) (x == rep.index) (eq-eqb s rep.owner (sym (eqb-true rep.owner s own))) same))

without_refs : (s x : ℕ) (D : List Deed) (reps : List WireRep) → AllByRecursion (λ (other : WireRep). is_same (own_ref s x) other ≡ false) reps → AllByRecursion (IsGuarded s D) reps → AllByRecursion (IsGuarded s (did.Withdraw x ∷ D)) reps
without_refs s x D [] unlike are = tt
without_refs s x D (rep ∷ reps) unlike are = (without_ref s x D rep unlike.0 are.0, without_refs s x D reps unlike.1 are.1)

without_object : (s x : ℕ) (D : List Deed) (sent_items : List SentItem) → AllByRecursion (λ (one : SentItem). AllByRecursion (λ (other : WireRep). is_same (own_ref s x) other ≡ false) (counted_in one.item)) sent_items → BundlesGuarded s D sent_items → BundlesGuarded s (did.Withdraw x ∷ D) sent_items
without_object s x D [] unlike are = tt
without_object s x D (one ∷ sent_items) unlike are = (without_refs s x D (counted_in one.item) unlike.0 are.0, without_object s x D sent_items unlike.1 are.1)

-- in a list of right deeds each bundle's references to own objects are to live ones
pub bundles_guarded : (s n : ℕ) (limits : Limits) (D : List Deed) → AreRightDeeds s n limits D → BundlesGuarded s D (bundles (history_of s n D))
unfolding gifts_of
bundles_guarded s n limits [] right = tt
bundles_guarded s n limits (did.Withdraw x ∷ D) right = guarded_more s n (did.Withdraw x) D (pinned_earlier s n limits (did.Withdraw x) D right) (without_object s x D (bundles (history_of s n D)) (withdrawn_unpinned s n limits x D right.0) (bundles_guarded s n limits D right.1)) tt
bundles_guarded s n limits (did.Export rep ∷ D) right = leaving s n limits (did.Export rep) D right (λ index alive. live_stays s index rep D alive) (bundles_guarded s n limits D right.1)
bundles_guarded s n limits (deed ∷ D) right = leaving s n limits deed D right (λ index alive. alive) (bundles_guarded s n limits D right.1)

found_step : (s index : ℕ) (D : List Deed) (rep : WireRep) (b : Bool) (same : List WireRep) → is_same (own_ref s index) rep ≡ b → IsGuarded s D rep → ((length same == 0) ≡ false → is_live s index D ≡ true) → (length (cond b (rep ∷ same) same) == 0) ≡ false → is_live s index D ≡ true
found_step s index D rep true same is guarded rest some = subst (λ (r : WireRep). is_live s r.index D ≡ true) (sym (same_ref (own_ref s index) rep is)) (guarded (subst (λ (r : WireRep). is_own s r ≡ true) (same_ref (own_ref s index) rep is) (eq-eqb s s refl)))
found_step s index D rep false same is guarded rest some = rest some

-- an own object that stands among guarded references is live
among_guarded : (s index : ℕ) (D : List Deed) (reps : List WireRep) → AllByRecursion (IsGuarded s D) reps → (times (own_ref s index) reps == 0) ≡ false → is_live s index D ≡ true
among_guarded s index D [] are some = cc
among_guarded s index D (rep ∷ reps) are some = found_step s index D rep (is_same (own_ref s index) rep) (filter (is_same (own_ref s index)) reps) refl are.0 (among_guarded s index D reps are.1) some

-- after a list of right deeds an object that has pins is live
pub pinned_law : PinnedLaw
pinned_law s n limits D right index some = among_guarded s index D (pinned (history_of s n D)) (all_flat (IsGuarded s D) (λ (one : SentItem). counted_in one.item) (bundles (history_of s n D)) (bundles_guarded s n limits D right)) some
