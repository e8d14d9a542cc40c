-- Where an owner refuses a reference each copy of it that came is excused, so no reference is lost without a cause.
use Rattle.std.proofs.Common.{◌≡◌, ℕ, zero, suc, ◌+◌, ◌-◌, ◌≤◌, ◌&&◌, ◌||◌, not, Bool, true, false, cond, List, [], ◌∷◌, ◌++◌, length, find, Option, Some, None, refl, sym, ap, subst, ◌∙◌, arith, ◌⊎◌, inl, inr}
use Rattle.std.specs.Prelude.{◌==◌}
use Rattle.std.specs.List.{AllByRecursion, list_any, slice_get, cons_option}
use Rattle.std.proofs.lemmas.Bool.{eqb-true, eq-eqb, ne_eqb, and_parts, and_from, or_left, or_right, or_parts, or_from, not-false, not-true, not_from_false, both_ways, false_from_ne_true}
use Rattle.std.proofs.lemmas.List.Elements.{filter_map-append}
use Rattle.std.proofs.lemmas.List.Folds.{list_any-append}
use Rattle.nob_ids.specs.Names.{is_same}
use Rattle.nob_ids.specs.declared.limits.Limits.{Limits}
use Rattle.nob_ids.specs.declared.wire_rep.WireRep.{WireRep}
use Rattle.nob_item.specs.Kinds.{counted_in}
use Rattle.nob_item.specs.declared.item.Item.{Item}
use Rattle.nob_item.specs.declared.item.Item.TheVariants as items
use Rattle.nob_model_session.specs.Pair.{IsBeginning}
use Rattle.nob_model_types.specs.declared.entry.Entry.{Entry}
use Rattle.nob_model_types.specs.declared.deed.Deed.{Deed}
use Rattle.nob_model_types.specs.declared.deed.Deed.TheVariants as did
use Rattle.nob_model_types.specs.declared.message.Message.{Message}
use Rattle.nob_model_types.specs.declared.turns.OwnerAnswer.{OwnerAnswer}
use Rattle.nob_model_types.specs.declared.turns.OwnerAnswer.TheVariants as said
use Rattle.nob_model_types.specs.Sessions.{closed, number, item_at}
use Rattle.nob_model_types.specs.Objects.{is_live}
use Rattle.nob_model_types.specs.Turns.{no_turns, turns, is_own, is_granted, is_pending, is_refused, is_no, with_clean, carries}
use Rattle.nob_model_types.specs.Messages.{is_of}
use Rattle.nob_model_work.specs.Work.{work}
use Rattle.nob_model_history.specs.declared.transit.SentItem.{SentItem}
use Rattle.nob_model_history.specs.Histories.{history_of}
use Rattle.nob_model_history.specs.Premises.{TookTurns, AnswersPending}
use Rattle.nob_model_history.specs.Transit.{is_some_of, is_settled, is_of_present, is_pinned, owner_session, pins, sent}
use Rattle.nob_model_history.proofs.Sending.{sent_more}
use Rattle.nob_model_history.proofs.Turning.{same_ref, named_ref, shapes, after_clean}
use Rattle.nob_model.specs.Lists.{AreRightDeeds}
use Rattle.nob_model.proofs.Premises.{took_turns}
use Rattle.nob_model.proofs.Carrying.{all_found}
use Rattle.nob_model.proofs.Waiting.{act_open}
use Rattle.nob_model_journal.specs.Fronts.{with_numbers, ActsInOrder}
use Rattle.nob_model_journal.specs.Journals.{deeds_at, history_at, closed_at, number_at, are_in_one, both_open, sent_in, sent_now, sent_to, acted_in, acted_from}
use Rattle.nob_model_journal.specs.Losses.{is_carried, is_loss, is_source, was_with_owner, is_open_source, is_excuse, sources, LosesExcused}
use Rattle.nob_model_journal.specs.declared.losses.Source.{Source}
use Rattle.nob_model_journal.specs.Safety.{is_with_owner}
use Rattle.nob_model_journal.specs.Runs.{WorldRun}
use Rattle.nob_model_invariant.specs.Asking.{answer_in, answers_among, items_among, last_word, word_of, turns_by, has_no, asked, heard, gave_to}
use Rattle.nob_model_invariant.specs.Settles.{settle_in, settles_among, is_in}
use Rattle.nob_model_invariant.specs.Typed.{AreOfTypes}
use Rattle.nob_model_invariant.proofs.Bundles.{settled_in}
use Rattle.nob_model_invariant.proofs.EachSession.{GoesOn, goes_on, acted_from_is}
use Rattle.nob_model_invariant.proofs.Numbers.{IsCome, owners_reached, deed_come, copies_come}
use Rattle.nob_model_invariant.proofs.Entries.{grows, grows_own, right_deeds_at}
use Rattle.nob_model_holdings.proofs.Holdings.{pins_stand}
use Rattle.nob_model_invariant.proofs.Listings.{split_in, items_begin, answers_begin, listings}
use Rattle.nob_model_holdings.proofs.Lists.{all_both, place_in_whole, some_same}
use Rattle.nob_model_invariant.proofs.Numbered.{numbered_at}
use Rattle.nob_model_invariant.proofs.Order.{acts_on_next, all_fit, in_order, in_order_now}
use Rattle.nob_model_invariant.proofs.SafetyPoints.{clients, owners, holdings, living, settlements}
use Rattle.nob_model_invariant.specs.Copies.{is_waiting}
use Rattle.nob_model_invariant.specs.LossInvariant.{IsReached, has_left}
use Rattle.nob_model_invariant.specs.LossLaws.{LossesLaw}
use Rattle.nob_model_invariant.proofs.Sent.{IsSentAs, has_it, sent_as}
use Rattle.nob_model_invariant.proofs.Copied.{IsCopyOf, Rests, new_source, are_copied, copies_acted}
use Rattle.nob_model_invariant.proofs.Denied.{IsSettledIn, carried_has, carried_some, denied_in}
use Rattle.nob_model_invariant.proofs.Resting.{or_false}
use Rattle.nob_model_invariant.proofs.Standing.{was_refused}

none_some : {X : Type 0} (x : X) → None ≡ Some x → ⊥
none_some x e = cc

-- ---- what was denied

-- a DirtyNo at a place is among the answers
no_at : (x : ℕ) (more : List Item) (place : ℕ) (item : Item) → slice_get more place ≡ Some item → answer_in x item ≡ Some false → has_no (answers_among x more) ≡ true
no_at x [] place item at denies = absurd (none_some item at)
no_at x (first ∷ more) zero item at denies = ap (λ one. has_no (cons_option one (answers_among x more))) (ap (answer_in x) (some_same first item at) ∙ denies)
no_at x (first ∷ more) (suc place) item at denies = behind (answer_in x first) (no_at x more place item at denies)
  where
    behind : (one : Option Bool) → has_no (answers_among x more) ≡ true → has_no (cons_option one (answers_among x more)) ≡ true
    behind None is = is
    behind (Some answer) is = or_right (not answer) (has_no (answers_among x more)) is

no_last : (before : OwnerAnswer) (answers : List Bool) → is_no (last_word before answers) ≡ true → (is_no before ≡ true) ⊎ (has_no answers ≡ true)
no_last before [] is = inl is
no_last before (answer ∷ answers) is = by answer (no_last (word_of answer) answers is)
  where
    by : (b : Bool) → (is_no (word_of b) ≡ true) ⊎ (has_no answers ≡ true) → (is_no before ≡ true) ⊎ ((not b || has_no answers) ≡ true)
    by true (inl refuses) = cc
    by true (inr refuses) = inr refuses
    by false either = inr refl

heard_no : (answers : List Bool) → (is_no said.Pending ≡ true) ⊎ (has_no answers ≡ true) → has_no answers ≡ true
heard_no answers (inl refuses) = cc
heard_no answers (inr refuses) = refuses

-- where a client is refused, the owner denied it in the client's session
refused_denied : (n : ℕ) (limits : ℕ → Limits) (J : List Entry) → WorldRun n limits J → AreOfTypes J → (b : ℕ) (rep : WireRep) → is_refused (turns b n rep (deeds_at b J)) ≡ true → has_no (gave_to n rep.owner b rep.index J) ≡ true
refused_denied n limits J run typed b rep refused =
    let by : is_refused (turns_by (asked n b rep J) (heard b rep J)) ≡ true = ap is_refused (sym ((clients n limits J run).turns_are b rep)) ∙ refused in
    let refuses : has_no (heard b rep J) ≡ true = heard_no (heard b rep J) (no_last said.Pending (heard b rep J) (and_parts _ _ by).1) in
    let begins = answers_begin rep.index (items_among (acted_from rep.owner b J)) (sent_to n rep.owner b J) (items_begin n rep.owner b J (in_order_now n limits J run typed rep.owner b)) in
    ap has_no (sym begins.1) ∙ list_any-append not (heard b rep J) begins.0 ∙ or_left (has_no (heard b rep J)) (has_no begins.0) refuses

-- ---- a copy that wasn't settled

-- what isn't settled among all that b sent a wasn't settled at a, where both are in one session
not_settled : (n a b k : ℕ) (J : List Entry) → IsBeginning (acted_from b a J) (with_numbers 1 (sent_to n b a J)) → number_at a b J ≡ number_at b a J → is_in k (settles_among (sent_now n b a J)) ≡ false → is_settled b k (deeds_at a J) ≡ false
not_settled n a b k J order one none =
    false_from_ne_true (is_settled b k (deeds_at a J)) (λ settled.
    let begins = items_begin n b a J order in
    let split : settles_among (items_among (acted_from b a J)) ++ settles_among begins.0 ≡ settles_among (sent_now n b a J) = sym (filter_map-append settle_in (items_among (acted_from b a J)) begins.0) ∙ ap settles_among begins.1 ∙ ap (λ (m : ℕ). settles_among (sent_in n b a m J)) one in
    both_ways (is_in k (settles_among (sent_now n b a J))) none
    (ap (is_in k) (sym split) ∙ list_any-append (λ j. j == k) (settles_among (items_among (acted_from b a J))) (settles_among begins.0) ∙ or_left _ _ (settled_in b k (deeds_at a J) settled)))

-- what was settled at a in a session is among what b sent it in that
settles_sent : (n a b session k : ℕ) (J : List Entry) → ActsInOrder n b a session J → is_in k (settles_among (items_among (acted_in b a session J))) ≡ true → is_in k (settles_among (sent_in n b a session J)) ≡ true
settles_sent n a b session k J order settled =
    let ks : List ℕ = settles_among (items_among (acted_in b a session J)) in
    let split : ks ++ settles_among (items_among order.0) ≡ settles_among (sent_in n b a session J) = sym (filter_map-append settle_in (items_among (acted_in b a session J)) (items_among order.0)) ∙ ap settles_among (split_in n b a session J order) in
    ap (is_in k) (sym split) ∙ list_any-append (λ j. j == k) ks (settles_among (items_among order.0)) ∙ or_left _ _ settled

other_granted : (own granted : Bool) → own ≡ false → (own || granted) ≡ true → granted ≡ true
other_granted true granted none is = absurd (both_ways true none refl)
other_granted false granted none is = is

-- both are in the session of a copy, and it is open
pub record IsSourceOpen (b : ℕ) (rep : WireRep) (J : List Entry) (copy : Source) : Type 0 where
  pub here : copy.session ≡ number_at copy.from b J
  pub there : copy.session ≡ number_at b copy.from J
  pub up : closed_at copy.from b J ≡ false
  pub back : closed_at b copy.from J ≡ false
  pub with_owner : are_in_one copy.from rep.owner J ≡ true
  pub owner_up : closed_at rep.owner copy.from J ≡ false

open_source : (n b : ℕ) (rep : WireRep) (J : List Entry) (copy : Source) → is_open_source n b rep J copy ≡ true → IsSourceOpen b rep J copy
open_source n b rep J copy is =
    let parts = and_parts (copy.session == number_at copy.from b J && both_open copy.from b J) _ is in
    let first = and_parts (copy.session == number_at copy.from b J) (both_open copy.from b J) parts.0 in
    let session = and_parts (are_in_one copy.from b J) (not (closed_at copy.from b J) && not (closed_at b copy.from J)) first.1 in
    let up = and_parts (not (closed_at copy.from b J)) (not (closed_at b copy.from J)) session.1 in
    let owner = and_parts (are_in_one copy.from rep.owner J) (not (closed_at copy.from rep.owner J) && not (closed_at rep.owner copy.from J)) (and_parts _ (both_open copy.from rep.owner J) parts.1).1 in
    let here : copy.session ≡ number_at copy.from b J = eqb-true copy.session (number_at copy.from b J) first.0 in
    record {
      here = here;
      there = here ∙ eqb-true (number_at copy.from b J) (number_at b copy.from J) session.0;
      up = not-true (closed_at copy.from b J) up.0;
      back = not-true (closed_at b copy.from J) up.1;
      with_owner = owner.0;
      owner_up = not-true (closed_at rep.owner copy.from J) (and_parts (not (closed_at copy.from rep.owner J)) (not (closed_at rep.owner copy.from J)) owner.1).1;
    }

-- a copy of what was denied that came in the session in which b is and wasn't settled is excused
unsettled_excused : (n b : ℕ) (limits : ℕ → Limits) (J : List Entry) (rep : WireRep) (copy : Source) (item : Item) → WorldRun n limits J → AreOfTypes J → has_no (gave_to n rep.owner b rep.index J) ≡ true → slice_get (with_numbers 1 (sent_to n copy.from b J)) (copy.number - 1) ≡ Some (copy.number, Some item) → carries rep item ≡ true → is_in copy.number (settles_among (sent_now n b copy.from J)) ≡ false → is_excuse n b rep J copy ≡ true
unsettled_excused n b limits J rep copy item run typed refuses there carried none = and_from _ _ (not_from_false _ not_own) (not_from_false _ not_open)
  where
    a : ℕ
    a = copy.from

    k : ℕ
    k = copy.number

    session : ℕ
    session = number_at b a J

    its : IsSentAs n a b session k item J
    its = sent_as n a b session k item J there

    unsettled : number_at a b J ≡ session → is_settled b k (deeds_at a J) ≡ false
    unsettled one = not_settled n a b k J (in_order_now n limits J run typed b a) one none

    carries_it : carries rep its.one.item ≡ true
    carries_it = ap (λ (i : Item). carries rep i) its.same ∙ carried

    at_owner : rep.owner ≡ a → ⊥
    at_owner same =
        let denied : has_no (gave_to n a b rep.index J) ≡ true = subst (λ (o : ℕ). has_no (gave_to n o b rep.index J) ≡ true) same refuses in
        let settled : IsSettledIn a b rep.index session (deeds_at a J) its.one = has_it n a b session k item J its (IsSettledIn a b rep.index session (deeds_at a J)) (denied_in a n (limits a) b rep.index session (deeds_at a J) (right_deeds_at n limits J run a) denied) in
        let own : carries (record { owner = a; index = rep.index }) its.one.item ≡ true = subst (λ (o : ℕ). carries (record { owner = o; index = rep.index }) its.one.item ≡ true) same carries_it in
        let there : is_in k (settles_among (items_among (acted_in b a session J))) ≡ true = ap (λ (j : ℕ). is_in j (settles_among (items_among (acted_in b a session J)))) (sym its.number) ∙ settled (and_from (its.one.to == b) (its.one.session == session) (eq-eqb its.one.to b its.to) (eq-eqb its.one.session session its.of_session)) own in
        both_ways (is_in k (settles_among (sent_now n b a J))) none (settles_sent n a b session k J (in_order n limits J run typed b a session) there)

    not_own : is_own a rep ≡ false
    not_own = false_from_ne_true (is_own a rep) (λ own. at_owner (eqb-true rep.owner a own))

    pinned : IsSourceOpen b rep J copy → is_pinned (deeds_at a J) its.one ≡ true
    pinned open_both =
        let one : number_at a b J ≡ session = sym open_both.here ∙ open_both.there in
        let stays : is_settled its.one.to its.one.number (deeds_at a J) ≡ false = ap (λ (p : ℕ). is_settled p its.one.number (deeds_at a J)) its.to ∙ ap (λ (j : ℕ). is_settled b j (deeds_at a J)) its.number ∙ unsettled one in
        let open_here : closed its.one.to (deeds_at a J) ≡ false = ap (λ (p : ℕ). closed p (deeds_at a J)) its.to ∙ open_both.up in
        let present : is_of_present (deeds_at a J) its.one ≡ true = eq-eqb its.one.session (number its.one.to (deeds_at a J)) (its.of_session ∙ sym one ∙ ap (λ (p : ℕ). number p (deeds_at a J)) (sym its.to)) in
        let some_in : is_some_of (counted_in its.one.item) ≡ true = carried_some rep (counted_in its.one.item) carries_it in
        and_from _ (not (closed its.one.to (deeds_at a J)))
        (and_from _ (not (is_settled its.one.to its.one.number (deeds_at a J)))
        (and_from (is_some_of (counted_in its.one.item)) (is_of_present (deeds_at a J) its.one) some_in present)
        (not_from_false (is_settled its.one.to its.one.number (deeds_at a J)) stays))
        (not_from_false (closed its.one.to (deeds_at a J)) open_here)

    some : IsSourceOpen b rep J copy → 1 ≤ pins rep (history_at a n J)
    some open_both =
        carried_has (λ (r : WireRep). 1 ≤ pins r (history_at a n J)) rep (counted_in its.one.item)
        (has_it n a b session k item J its (λ (o : SentItem). is_pinned (deeds_at a J) o ≡ true → AllByRecursion (λ (r : WireRep). 1 ≤ pins r (history_at a n J)) (counted_in o.item)) (pins_stand a n (deeds_at a J)) (pinned open_both)) carries_it

    never : IsSourceOpen b rep J copy → ⊥
    never open_both =
        let granted : is_granted (turns a n rep (deeds_at a J)) ≡ true = other_granted (is_own a rep) (is_granted (turns a n rep (deeds_at a J))) not_own ((holdings n limits J run).pinned_granted a rep (some open_both)) in
        let lives = (living n limits J run).listed_live rep.owner rep.index a ((listings n limits J run typed).granted_listed a rep granted open_both.with_owner open_both.owner_up) in
        both_ways (is_live rep.owner rep.index (deeds_at rep.owner J)) ((owners n limits J run).denied rep.owner b rep.index (number_at b rep.owner J) refuses).1 lives

    not_open : is_open_source n b rep J copy ≡ false
    not_open = false_from_ne_true (is_open_source n b rep J copy) (λ is. never (open_source n b rep J copy is))

-- ---- copies that came before

-- a message that waits isn't settled
waits_unsettled : (a k : ℕ) (ks : List ℕ) (ms : List Message) → AllByRecursion (λ message. (message.from == a) ≡ true → is_in message.number ks ≡ false) ms → is_waiting a k ms ≡ true → is_in k ks ≡ false
waits_unsettled a k ks [] all waits = cc
waits_unsettled a k ks (m ∷ ms) all waits = by (waits_unsettled a k ks ms all.1) (is_of a k m) refl waits
  where
    by : (is_waiting a k ms ≡ true → is_in k ks ≡ false) → (own : Bool) → is_of a k m ≡ own → (own || is_waiting a k ms) ≡ true → is_in k ks ≡ false
    by rest true own either = let parts = and_parts (m.from == a) (m.number == k) own in ap (λ (j : ℕ). is_in j ks) (sym (eqb-true m.number k parts.1)) ∙ all.0 parts.0
    by rest false own either = rest either

-- a copy of a session that b has left is excused, unless its sender is the owner
left_excused : (n b : ℕ) (J : List Entry) (rep : WireRep) (copy : Source) → is_own copy.from rep ≡ false → has_left b copy J ≡ true → is_excuse n b rep J copy ≡ true
left_excused n b J rep copy not_own left = and_from _ _ (not_from_false (is_own copy.from rep) not_own) (not_from_false _ (false_from_ne_true (is_open_source n b rep J copy) (λ is. shut (open_source n b rep J copy is))))
  where
    shut : IsSourceOpen b rep J copy → ⊥
    shut its =
        both_ways (has_left b copy J)
        (or_from (closed_at b copy.from J) (not (copy.session == number_at b copy.from J)) its.back (ap not (eq-eqb copy.session (number_at b copy.from J) its.there))) left

-- a copy that waits, or came in a session that b has left, is excused where the owner says no
rest_excused : (n b : ℕ) (limits : ℕ → Limits) (J : List Entry) (rep : WireRep) → WorldRun n limits J → AreOfTypes J → has_no (gave_to n rep.owner b rep.index J) ≡ true → closed_at b rep.owner J ≡ false → (copy : Source) → IsCopyOf rep (deeds_at b J) copy → Rests b n (deeds_at b J) copy → is_excuse n b rep J copy ≡ true
rest_excused n b limits J rep run typed refuses up copy its rest = by (has_left b copy J) refl
  where
    not_own : has_left b copy J ≡ true → is_own copy.from rep ≡ false
    not_own left =
        false_from_ne_true (is_own copy.from rep) (λ own.
        let here : closed_at b copy.from J ≡ false = ap (λ (p : ℕ). closed_at b p J) (sym (eqb-true rep.owner copy.from own)) ∙ up in
        both_ways (has_left b copy J) (or_from (closed_at b copy.from J) (not (copy.session == number_at b copy.from J)) here (ap not (its.of_owner own))) left)

    waits : has_left b copy J ≡ false → is_waiting copy.from copy.number (work b n (deeds_at b J)).waiting ≡ true
    waits stays = or_false (is_waiting copy.from copy.number (work b n (deeds_at b J)).waiting) (has_left b copy J) stays rest

    present : has_left b copy J ≡ false → (copy.session == number_at b copy.from J) ≡ true
    present stays = not-false (copy.session == number_at b copy.from J) (or_parts (closed_at b copy.from J) (not (copy.session == number_at b copy.from J)) stays).1

    by : (left : Bool) → has_left b copy J ≡ left → is_excuse n b rep J copy ≡ true
    by true left = left_excused n b J rep copy (not_own left) left
    by false stays =
        let order = in_order_now n limits J run typed copy.from b in
        let found = its.acted_on (present stays) in
        unsettled_excused n b limits J rep copy found.0 run typed refuses (place_in_whole (acted_from copy.from b J) order.0 _ (copy.number - 1) (copy.number, Some found.0) order.1 found.1) found.2
        (waits_unsettled copy.from copy.number (settles_among (sent_now n b copy.from J)) (work b n (deeds_at b J)).waiting ((settlements n limits J run).none_waits copy.from b) (waits stays))

-- where the owner of what is pending says no, all copies are excused
pending_excused : (n b : ℕ) (limits : ℕ → Limits) (J : List Entry) (rep : WireRep) → WorldRun n limits J → AreOfTypes J → has_no (gave_to n rep.owner b rep.index J) ≡ true → closed_at b rep.owner J ≡ false → is_pending (turns b n rep (deeds_at b J)) ≡ true → AllByRecursion (λ copy. is_excuse n b rep J copy ≡ true) (sources b n rep (deeds_at b J))
pending_excused n b limits J rep run typed refuses up pending =
    let D : List Deed = deeds_at b J in
    let right = right_deeds_at n limits J run b in
    all_both (IsCopyOf rep D) (Rests b n D) (λ (copy : Source). is_excuse n b rep J copy ≡ true) (rest_excused n b limits J rep run typed refuses up) (sources b n rep D) (copies_acted b n (limits b) rep D right) ((are_copied b n (limits b) rep D right).wait up pending)

-- ---- the copy that comes

above_none : (t k : ℕ) (ks : List ℕ) → AllByRecursion (λ j. j ≤ t) ks → k ≡ t + 1 → is_in k ks ≡ false
above_none t k [] low is = refl
above_none t k (j ∷ ks) low is = or_from (j == k) (is_in k ks) (ne_eqb j k (λ same. (let most = low.0 in omega (arith, most, is, same)))) (above_none t k ks low.1 is)

-- what is refused: where each copy since the last Clean is excused
abbrev pub RefusedExcused : ℕ → List Entry → Type 0
RefusedExcused n J = (b : ℕ) (rep : WireRep) → is_refused (turns b n rep (deeds_at b J)) ≡ true → AllByRecursion (λ copy. is_excuse n b rep J copy ≡ true) (sources b n rep (deeds_at b J))

-- a copy of what was refused before is excused
new_excused : (n p b k : ℕ) (limits : ℕ → Limits) (J : List Entry) (rep : WireRep) (item : Item) → WorldRun n limits J → AreOfTypes J → AreRightDeeds b n (limits b) (did.Act p k ∷ deeds_at b J) → item_at p k (deeds_at b J) ≡ Some item → is_refused (turns b n rep (deeds_at b J)) ≡ true → carries rep item ≡ true → is_excuse n b rep J (new_source p k (deeds_at b J)) ≡ true
new_excused n p b k limits J rep item run typed right is refused carried =
    let next = acts_on_next p b n k limits J run (all_fit n limits J run typed p) right.0 in
    let t : ℕ = length (acted_from p b J) in
    let number = next.next in
    let place : k - 1 ≡ t = omega (arith, number) in
    let same : next.item ≡ item = some_same next.item item (sym next.found ∙ is) in
    let there : slice_get (with_numbers 1 (sent_to n p b J)) (k - 1) ≡ Some (k, Some item) =
    ap (slice_get (with_numbers 1 (sent_to n p b J))) place ∙ numbered_at 1 (sent_to n p b J) t next.item next.was_sent ∙ ap (λ (m : ℕ). Some (m, Some next.item)) (let one : 1 + t ≡ k = omega (arith, number) in one) ∙ ap (λ (i : Item). Some (k, Some i)) same in
    unsettled_excused n b limits J rep (new_source p k (deeds_at b J)) item run typed (refused_denied n limits J run typed b rep refused) there carried
    (above_none t k (settles_among (sent_now n b p J)) (subst (λ pairs. AllByRecursion (λ j. j ≤ length pairs) (settles_among (sent_now n b p J))) (sym (acted_from_is n p b limits J run)) ((settlements n limits J run).were_acted p b (number_at b p J))) number)

-- ---- a loss

-- the sources by an Act that loses a reference are excused
act_excused : (n p b k : ℕ) (limits : ℕ → Limits) (J : List Entry) (rep : WireRep) → WorldRun n limits J → AreOfTypes J → RefusedExcused n J → AreRightDeeds b n (limits b) (did.Act p k ∷ deeds_at b J) → (found : Option Item) → item_at p k (deeds_at b J) ≡ found → is_loss b n p rep found (deeds_at b J) ≡ true
    → AllByRecursion (λ copy. is_excuse n b rep J copy ≡ true) (cond (is_carried rep found) (new_source p k (deeds_at b J) ∷ sources b n rep (deeds_at b J)) (sources b n rep (deeds_at b J)))
act_excused n p b k limits J rep run typed before right None is loss = cc
act_excused n p b k limits J rep run typed before right (Some (items.Call call target method value)) is loss =
    let parts = and_parts (carries rep (items.Call call target method value)) (is_refused (turns b n rep (deeds_at b J))) loss in
    subst (λ (c : Bool). AllByRecursion (λ copy. is_excuse n b rep J copy ≡ true) (cond c (new_source p k (deeds_at b J) ∷ sources b n rep (deeds_at b J)) (sources b n rep (deeds_at b J)))) (sym parts.0)
    (new_excused n p b k limits J rep (items.Call call target method value) run typed right is parts.1 parts.0, before b rep parts.1)
act_excused n p b k limits J rep run typed before right (Some (items.Reply call status value)) is loss =
    let parts = and_parts (carries rep (items.Reply call status value)) (is_refused (turns b n rep (deeds_at b J))) loss in
    subst (λ (c : Bool). AllByRecursion (λ copy. is_excuse n b rep J copy ≡ true) (cond c (new_source p k (deeds_at b J) ∷ sources b n rep (deeds_at b J)) (sources b n rep (deeds_at b J)))) (sym parts.0)
    (new_excused n p b k limits J rep (items.Reply call status value) run typed right is parts.1 parts.0, before b rep parts.1)
act_excused n p b k limits J rep run typed before right (Some (items.Settle item)) is loss = cc
act_excused n p b k limits J rep run typed before right (Some (items.Dirty index)) is loss = cc
act_excused n p b k limits J rep run typed before right (Some (items.DirtyOk index)) is loss = cc
act_excused n p b k limits J rep run typed before right (Some (items.DirtyNo index)) is loss =
    let parts = and_parts (rep.owner == p) (rep.index == index) loss in
    let owner : rep.owner ≡ p = eqb-true rep.owner p parts.0 in
    let same : rep.index ≡ index = eqb-true rep.index index parts.1 in
    let next = acts_on_next p b n k limits J run (all_fit n limits J run typed p) right.0 in
    let item : next.item ≡ items.DirtyNo index = some_same next.item (items.DirtyNo index) (sym next.found ∙ is) in
    let denies : answer_in rep.index next.item ≡ Some false = ap (answer_in rep.index) item ∙ ap (λ (b : Bool). cond b (Some false) None) (eq-eqb index rep.index (sym same)) in
    let refuses : has_no (gave_to n p b rep.index J) ≡ true = no_at rep.index (sent_to n p b J) (length (acted_from p b J)) next.item next.was_sent denies in
    let asks : AnswersPending b n p (Some (items.DirtyNo index)) (deeds_at b J) = subst (λ (one : Option Item). AnswersPending b n p one (deeds_at b J)) is (took_turns b n (limits b) (did.Act p k ∷ deeds_at b J) right).0 in
    pending_excused n b limits J rep run typed (subst (λ (o : ℕ). has_no (gave_to n o b rep.index J) ≡ true) (sym owner) refuses)
    (ap (λ (q : ℕ). closed q (deeds_at b J)) owner ∙ act_open b n (limits b) p k (deeds_at b J) right.0)
    (subst (λ (r : WireRep). is_pending (turns b n r (deeds_at b J)) ≡ true) (named_ref rep p index loss) asks)
act_excused n p b k limits J rep run typed before right (Some (items.Clean index)) is loss = cc

-- ---- one entry more

-- of a session that wasn't above the one in which a space was and in which it is: it was in it, and left it no less closed
kept_low : (n p q k : ℕ) (limits : ℕ → Limits) (entry : Entry) (J : List Entry) → WorldRun n limits (entry ∷ J) → k ≤ number_at p q J → k ≡ number_at p q (entry ∷ J) → (number_at p q (entry ∷ J) ≡ number_at p q J) × (closed_at p q J ≡ true → closed_at p q (entry ∷ J) ≡ true)
kept_low n p q k limits entry J run low is = by (goes_on n p q limits entry J run)
  where
    by : GoesOn q (deeds_at p J) (deeds_at p (entry ∷ J)) → (number_at p q (entry ∷ J) ≡ number_at p q J) × (closed_at p q J ≡ true → closed_at p q (entry ∷ J) ≡ true)
    by (inl stays) = stays
    by (inr above) = absurd (omega (arith, above, low, is))

-- so what is open was open before
open_earlier : (p q : ℕ) (entry : Entry) (J : List Entry) → (closed_at p q J ≡ true → closed_at p q (entry ∷ J) ≡ true) → closed_at p q (entry ∷ J) ≡ false → closed_at p q J ≡ false
open_earlier p q entry J stays up = false_from_ne_true (closed_at p q J) (λ shut. both_ways (closed_at p q (entry ∷ J)) up (stays shut))

both_earlier : (n a b k : ℕ) (limits : ℕ → Limits) (entry : Entry) (J : List Entry) → WorldRun n limits (entry ∷ J) → IsReached k a b J → k ≡ number_at a b (entry ∷ J) → both_open a b (entry ∷ J) ≡ true → both_open a b J ≡ true
both_earlier n a b k limits entry J run low is open_now =
    let parts = and_parts (are_in_one a b (entry ∷ J)) (not (closed_at a b (entry ∷ J)) && not (closed_at b a (entry ∷ J))) open_now in
    let up = and_parts (not (closed_at a b (entry ∷ J))) (not (closed_at b a (entry ∷ J))) parts.1 in
    let one : number_at a b (entry ∷ J) ≡ number_at b a (entry ∷ J) = eqb-true (number_at a b (entry ∷ J)) (number_at b a (entry ∷ J)) parts.0 in
    let here = kept_low n a b k limits entry J run low.0 is in
    let there = kept_low n b a k limits entry J run low.1 (is ∙ one) in
    and_from (are_in_one a b J) _ (eq-eqb (number_at a b J) (number_at b a J) (sym here.0 ∙ one ∙ there.0))
    (and_from (not (closed_at a b J)) (not (closed_at b a J))
    (not_from_false (closed_at a b J) (open_earlier a b entry J here.1 (not-true (closed_at a b (entry ∷ J)) up.0)))
    (not_from_false (closed_at b a J) (open_earlier b a entry J there.1 (not-true (closed_at b a (entry ∷ J)) up.1))))

-- ---- the item in which a copy came

found_on : {X : Type 0} (test : X → Bool) (xs ys : List X) (x : X) → find test xs ≡ Some x → find test (xs ++ ys) ≡ Some x
found_on test [] ys x found = absurd (none_some x found)
found_on test (y ∷ xs) ys x found = by (test y) (found_on test xs ys x) found
  where
    by : (b : Bool) → (find test xs ≡ Some x → find test (xs ++ ys) ≡ Some x) → cond b (Some y) (find test xs) ≡ Some x → cond b (Some y) (find test (xs ++ ys)) ≡ Some x
    by true rest is = is
    by false rest is = rest is

-- what was sent is found once more is sent
sent_found : (n a : ℕ) (test : SentItem → Bool) (entry : Entry) (J : List Entry) (one : SentItem) → find test (sent (history_at a n J)) ≡ Some one → find test (sent (history_at a n (entry ∷ J))) ≡ Some one
sent_found n a test entry J one found = elim (grows a entry J) [
  | inl same ↦ ap (λ D. find test (sent (history_of a n D))) same ∙ found
  | inr more ↦ ap (λ D. find test (sent (history_of a n D))) more.3
      ∙ ap (find test) (sent_more a n more.0 (deeds_at a J))
      ∙ found_on test (sent (history_at a n J)) _ one found
]

any_found : {X : Type 0} (test : X → Bool) (xs : List X) → list_any test xs ≡ true → (x : X) × (find test xs ≡ Some x)
any_found test [] there = cc
any_found {X = X} test (y ∷ xs) there = by (test y) (any_found test xs) there
  where
    by : (b : Bool) → (list_any test xs ≡ true → (x : X) × (find test xs ≡ Some x)) → (b || list_any test xs) ≡ true → (x : X) × (cond b (Some y) (find test xs) ≡ Some x)
    by true rest either = (y, refl)
    by false rest either = rest either

-- a copy whose sessions are open came in sessions that were open before, if its sender isn't the owner
source_earlier : (n b : ℕ) (limits : ℕ → Limits) (rep : WireRep) (entry : Entry) (J : List Entry) (copy : Source) → WorldRun n limits (entry ∷ J) → AreOfTypes J → IsCome n b J copy → is_own copy.from rep ≡ false → is_open_source n b rep (entry ∷ J) copy ≡ true → is_open_source n b rep J copy ≡ true
source_earlier n b limits rep entry J copy run typed its not_own is =
    let a : ℕ = copy.from in
    let all : List SentItem = sent (history_at a n J) in
    let parts = and_parts (copy.session == number_at a b (entry ∷ J) && both_open a b (entry ∷ J)) _ is in
    let first = and_parts (copy.session == number_at a b (entry ∷ J)) (both_open a b (entry ∷ J)) parts.0 in
    let second = and_parts (was_with_owner a rep (entry ∷ J) (find (is_source b copy) (sent (history_at a n (entry ∷ J))))) (both_open a rep.owner (entry ∷ J)) parts.1 in
    let here : copy.session ≡ number_at a b (entry ∷ J) = eqb-true copy.session (number_at a b (entry ∷ J)) first.0 in
    let stays = kept_low n a b copy.session limits entry J run its.0.0 here in
    let found = any_found (is_source b copy) all its.1 in
    let k : ℕ = owner_session rep found.0 in
    let low : IsReached k a rep.owner J = all_found (λ one. IsReached (owner_session rep one) a rep.owner J) (is_source b copy) all found.0 found.1 (owners_reached n limits J run.1 typed a rep) in
    let then_with : is_with_owner a rep (entry ∷ J) found.0 ≡ true = ap (was_with_owner a rep (entry ∷ J)) (sym (sent_found n a (is_source b copy) entry J found.0 found.1)) ∙ second.0 in
    let with_owner : k ≡ number_at a rep.owner (entry ∷ J) = eqb-true k (number_at a rep.owner (entry ∷ J)) (other_granted (is_own a rep) (k == number_at a rep.owner (entry ∷ J)) not_own then_with) in
    let stays_with = kept_low n a rep.owner k limits entry J run low.0 with_owner in
    let was_with : was_with_owner a rep J (find (is_source b copy) all) ≡ true = ap (was_with_owner a rep J) found.1 ∙ or_right (is_own a rep) (k == number_at a rep.owner J) (eq-eqb k (number_at a rep.owner J) (with_owner ∙ stays_with.0)) in
    and_from _ _
    (and_from (copy.session == number_at a b J) (both_open a b J) (eq-eqb copy.session (number_at a b J) (here ∙ stays.0)) (both_earlier n a b copy.session limits entry J run its.0 here first.1))
    (and_from _ (both_open a rep.owner J) was_with (both_earlier n a rep.owner k limits entry J run low with_owner second.1))

-- what is excused stays so
excused_later : (n b : ℕ) (limits : ℕ → Limits) (rep : WireRep) (entry : Entry) (J : List Entry) → WorldRun n limits (entry ∷ J) → AreOfTypes J → (copy : Source) → IsCome n b J copy → is_excuse n b rep J copy ≡ true → is_excuse n b rep (entry ∷ J) copy ≡ true
excused_later n b limits rep entry J run typed copy its is =
    let parts = and_parts (not (is_own copy.from rep)) (not (is_open_source n b rep J copy)) is in
    let not_own : is_own copy.from rep ≡ false = not-true (is_own copy.from rep) parts.0 in
    and_from _ _ parts.0
    (not_from_false _ (false_from_ne_true (is_open_source n b rep (entry ∷ J) copy) (λ still. both_ways (is_open_source n b rep J copy) (not-true (is_open_source n b rep J copy) parts.1) (source_earlier n b limits rep entry J copy run typed its not_own still))))

-- what is refused after an Act
act_refused : (n p b k : ℕ) (limits : ℕ → Limits) (J : List Entry) (rep : WireRep) → WorldRun n limits J → AreOfTypes J → RefusedExcused n J → AreRightDeeds b n (limits b) (did.Act p k ∷ deeds_at b J) → is_refused (turns b n rep (did.Act p k ∷ deeds_at b J)) ≡ true → AllByRecursion (λ copy. is_excuse n b rep J copy ≡ true) (sources b n rep (did.Act p k ∷ deeds_at b J))
act_refused n p b k limits J rep run typed before right refused =
    by (was_refused b n p rep (item_at p k D) D took.0 (shapes b n rep D took.1) refused)
  where
    D : List Deed
    D = deeds_at b J

    took : TookTurns b n (did.Act p k ∷ D)
    took = took_turns b n (limits b) (did.Act p k ∷ D) right

    by : (is_loss b n p rep (item_at p k D) D ≡ true) ⊎ ((is_refused (turns b n rep D) ≡ true) × (is_carried rep (item_at p k D) ≡ false)) → AllByRecursion (λ copy. is_excuse n b rep J copy ≡ true) (cond (is_carried rep (item_at p k D)) (new_source p k D ∷ sources b n rep D) (sources b n rep D))
    by (inl loss) = act_excused n p b k limits J rep run typed before right (item_at p k D) refl loss
    by (inr was) = subst (λ (c : Bool). AllByRecursion (λ copy. is_excuse n b rep J copy ≡ true) (cond c (new_source p k D ∷ sources b n rep D) (sources b n rep D))) (sym was.1) (before b rep was.0)

-- and after a Clean
clean_refused : (n b : ℕ) (limits : ℕ → Limits) (J : List Entry) (rep other : WireRep) → RefusedExcused n J → AreRightDeeds b n (limits b) (did.Clean other ∷ deeds_at b J) → is_refused (turns b n rep (did.Clean other ∷ deeds_at b J)) ≡ true → AllByRecursion (λ copy. is_excuse n b rep J copy ≡ true) (sources b n rep (did.Clean other ∷ deeds_at b J))
clean_refused n b limits J rep other before right refused = by (is_same rep other) refl refused
  where
    D : List Deed
    D = deeds_at b J

    by : (same : Bool) → is_same rep other ≡ same → is_refused (cond same (with_clean (turns b n rep D)) (turns b n rep D)) ≡ true → AllByRecursion (λ copy. is_excuse n b rep J copy ≡ true) (cond (same && (turns b n rep D).asks) [] (sources b n rep D))
    by true same is = absurd (both_ways (is_refused (with_clean (turns b n rep D))) (after_clean (turns b n rep D) (subst (λ (r : WireRep). is_granted (turns b n r D) ≡ true) (sym (same_ref rep other same)) (took_turns b n (limits b) (did.Clean other ∷ D) right).0)).1.2 is)
    by false same is = before b rep is

deed_refused : (n b : ℕ) (limits : ℕ → Limits) (J : List Entry) (rep : WireRep) (deed : Deed) → WorldRun n limits J → AreOfTypes J → RefusedExcused n J → AreRightDeeds b n (limits b) (deed ∷ deeds_at b J) → is_refused (turns b n rep (deed ∷ deeds_at b J)) ≡ true → AllByRecursion (λ copy. is_excuse n b rep J copy ≡ true) (sources b n rep (deed ∷ deeds_at b J))
deed_refused n b limits J rep (did.Act p k) run typed before right refused = act_refused n p b k limits J rep run typed before right refused
deed_refused n b limits J rep (did.Clean other) run typed before right refused = clean_refused n b limits J rep other before right refused
deed_refused n b limits J rep (did.Open q k) run typed before right refused = by (q == rep.owner) refused
  where
    D : List Deed
    D = deeds_at b J

    by : (own : Bool) → is_refused (cond own no_turns (turns b n rep D)) ≡ true → AllByRecursion (λ copy. is_excuse n b rep J copy ≡ true) (cond own [] (sources b n rep D))
    by true is = tt
    by false is = before b rep is
deed_refused n b limits J rep deed run typed before right refused = before b rep refused

-- in every run each copy of what was refused is excused
pub refused_excused : (n : ℕ) (limits : ℕ → Limits) (J : List Entry) → WorldRun n limits J → AreOfTypes J → RefusedExcused n J
refused_excused n limits [] run typed b rep refused = tt
refused_excused n limits (entry ∷ J) run typed b rep refused =
    let before : RefusedExcused n J = refused_excused n limits J run.1 typed.1 in
    let come = copies_come n limits J run.1 typed.1 b rep in
    elim (grows b entry J) [
      | inl same ↦
          subst (λ D. AllByRecursion (λ copy. is_excuse n b rep (entry ∷ J) copy ≡ true) (sources b n rep D)) (sym same)
          (all_both (IsCome n b J) (λ copy. is_excuse n b rep J copy ≡ true) (λ copy. is_excuse n b rep (entry ∷ J) copy ≡ true) (excused_later n b limits rep entry J run typed.1) (sources b n rep (deeds_at b J)) come (before b rep (ap (λ D. is_refused (turns b n rep D)) (sym same) ∙ refused)))
      | inr more ↦
          let right : AreRightDeeds b n (limits b) (more.0 ∷ deeds_at b J) = subst (AreRightDeeds b n (limits b)) more.3 (right_deeds_at n limits (entry ∷ J) run b) in
          subst (λ D. AllByRecursion (λ copy. is_excuse n b rep (entry ∷ J) copy ≡ true) (sources b n rep D)) (sym more.3)
          (all_both (IsCome n b J) (λ copy. is_excuse n b rep J copy ≡ true) (λ copy. is_excuse n b rep (entry ∷ J) copy ≡ true) (excused_later n b limits rep entry J run typed.1) (sources b n rep (more.0 ∷ deeds_at b J)) (deed_come n b limits J rep more.0 run.1 typed.1 right come) (deed_refused n b limits J rep more.0 run.1 typed.1 before right (ap (λ D. is_refused (turns b n rep D)) (sym more.3) ∙ refused)))
    ]

-- each reference that an entry loses is excused
entry_excused : (n : ℕ) (limits : ℕ → Limits) (entry : Entry) (J : List Entry) → WorldRun n limits (entry ∷ J) → AreOfTypes (entry ∷ J) → LosesExcused n entry J
entry_excused n limits entry J run typed p k rep acts loss =
    let right : AreRightDeeds entry.space n (limits entry.space) (did.Act p k ∷ deeds_at entry.space J) = subst (AreRightDeeds entry.space n (limits entry.space)) (grows_own entry J (did.Act p k) acts) (right_deeds_at n limits (entry ∷ J) run entry.space) in
    act_excused n p entry.space k limits J rep run.1 typed.1 (refused_excused n limits J run.1 typed.1) right (item_at p k (deeds_at entry.space J)) refl loss

-- in every run of a world no reference is lost without a cause
pub losses : LossesLaw
losses n limits [] run typed = tt
losses n limits (entry ∷ J) run typed = (entry_excused n limits entry J run typed, losses n limits J run.1 typed.1)
