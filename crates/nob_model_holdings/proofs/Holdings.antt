-- In every list of right deeds what is held, and what has pins, is own or granted.
use Rattle.std.proofs.Common.{◌≡◌, ℕ, ◌+◌, ◌-◌, ◌≤◌, ◌||◌, not, Bool, true, false, cond, List, [], ◌∷◌, ◌++◌, length, map, filter, find, Option, Some, None, refl, sym, ap, subst, ◌∙◌, arith, ◌⊎◌, inl, inr}
use Rattle.std.specs.Prelude.{◌==◌, nat_le}
use Rattle.std.specs.List.{AllByRecursion}
use Rattle.std.proofs.lemmas.Bool.{eq-eqb, ne_eqb, and_parts, or_left, not_from_false, leb-true, leb-false}
use Rattle.std.proofs.lemmas.List.{length-append}
use Rattle.std.proofs.lemmas.List.Elements.{filter-append}
use Rattle.nob_ids.specs.Names.{is_same, is_counted}
use Rattle.nob_ids.specs.declared.limits.Limits.{Limits}
use Rattle.nob_ids.specs.declared.wire_rep.WireRep.{WireRep}
use Rattle.nob_pickle.specs.Spelling.{refs_in}
use Rattle.nob_pickle.specs.Writing.{pickle_of}
use Rattle.nob_pickle.specs.declared.value.Value.{Value}
use Rattle.nob_item.specs.Kinds.{counted_in}
use Rattle.nob_item.specs.declared.item.Item.{Item}
use Rattle.nob_item.specs.declared.item.Item.TheVariants as items
use Rattle.nob_model_types.specs.declared.event.Outcome.{Outcome}
use Rattle.nob_model_types.specs.declared.refusal.Refusal.TheVariants as refusals
use Rattle.nob_model_types.specs.declared.deed.Deed.{Deed}
use Rattle.nob_model_types.specs.declared.deed.Deed.TheVariants as did
use Rattle.nob_model_types.specs.declared.message.Loan.{Loan}
use Rattle.nob_model_types.specs.declared.message.Loan.TheVariants as loans
use Rattle.nob_model_types.specs.declared.message.RefCopy.{RefCopy}
use Rattle.nob_model_types.specs.declared.message.Message.{Message}
use Rattle.nob_model_types.specs.Sessions.{is_peer, item_at}
use Rattle.nob_model_types.specs.Objects.{is_live, is_exported}
use Rattle.nob_model_types.specs.Turns.{turns, is_own, is_usable, is_granted, is_lost}
use Rattle.nob_model_types.specs.Messages.{new_message, new_copy, loan_after, copy_after, message_after, is_of, is_lost_message, replies_to}
use Rattle.nob_model_work.specs.declared.gifts.Gift.{Gift}
use Rattle.nob_model_work.specs.declared.work.Run.{Run}
use Rattle.nob_model_work.specs.Work.{work}
use Rattle.nob_model_work.specs.Gifts.{dirty_for, dirties_for, answer_to, gifts_of_act, lost_call_reply, gifts_of_settle, value_of, reply_to, gifts_of_finish, gifts_of, gifts}
use Rattle.nob_model_history.specs.declared.transit.SentItem.{SentItem}
use Rattle.nob_model_history.specs.Histories.{history_of}
use Rattle.nob_model_history.specs.Holds.{times, gains, releases, hand, loans_of, target_lent, copies_lent, lent_in, holds, is_held}
use Rattle.nob_model_history.specs.Transit.{next_sent, sent, is_pinned, bundles, pinned, pins}
use Rattle.nob_model_history.specs.Premises.{TookTurns}
use Rattle.nob_model_history.proofs.Sending.{new_items, sent_more}
use Rattle.nob_model_history.proofs.Turning.{same_ref}
use Rattle.nob_model_acting.specs.Sending.{refs_refused, is_faulty, value_refused}
use Rattle.nob_model.specs.Right.{right_after}
use Rattle.nob_model.specs.Lists.{AreRightDeeds}
use Rattle.nob_model.proofs.Doing.{was_answered}
use Rattle.nob_model.proofs.Accepted.{call_tells, dup_tells, finish_tells, take_tells}
use Rattle.nob_model.proofs.Premises.{took_turns, objects_in_turn}
use Rattle.nob_model.proofs.Guarding.{pinned_earlier}
use Rattle.nob_model.proofs.Orderly.{holds_law}
use Rattle.nob_model.proofs.Lending.{IsAllLent, all_lent}
use Rattle.nob_model.proofs.Carrying.{AllOutstanding, Carries, all_carry, all_filter, all_found}
use Rattle.nob_model_holdings.proofs.Lists.{all_append, all_split, all_both, all_pass, all_unfilter}
use Rattle.nob_model_holdings.proofs.Typing.{next_none, refs_held}
use Rattle.nob_model_holdings.proofs.Hands.{New, outstanding_more, hand_both}
use Rattle.nob_model_holdings.proofs.Holding.{OfCounted, times_some, lent_counted}
use Rattle.nob_model_holdings.proofs.Granted.{is_owned, gives_up, owned_stays, held_kept, pinned_kept, all_stand, all_apart, all_joined, hand_apart, copies_apart, LendsOwned, HoldsOwned, held_owned}

-- ---- what is held at all

some_held : (total : ℕ) → 1 ≤ total → not (total == 0) ≡ true
some_held total some = not_from_false _ (ne_eqb total 0 (λ none. omega (arith, some, none)))

-- what is in the hand is held
pub hand_held : (s n : ℕ) (limits : Limits) (rep : WireRep) (D : List Deed) → AreRightDeeds s n limits D → 1 ≤ hand rep D → is_held s rep (history_of s n D) ≡ true
hand_held s n limits rep D right some = let law = holds_law s n limits D right rep in some_held (holds s rep (history_of s n D)) (omega (arith, law, some))

-- what is lent is held
pub lent_held : (s n : ℕ) (limits : Limits) (rep : WireRep) (D : List Deed) → AreRightDeeds s n limits D → 1 ≤ times rep (lent_in s (work s n D)) → is_held s rep (history_of s n D) ≡ true
lent_held s n limits rep D right some = let law = holds_law s n limits D right rep in some_held (holds s rep (history_of s n D)) (omega (arith, law, some))

-- so what is lent isn't given up
pub lent_kept : (s n : ℕ) (limits : Limits) (rep : WireRep) (deed : Deed) (D : List Deed) → AreRightDeeds s n limits (deed ∷ D) → 1 ≤ times rep (lent_in s (work s n D)) → gives_up rep deed ≡ false
lent_kept s n limits rep deed D right some = held_kept s n limits rep deed D right.0 (times_some (λ r. is_counted r ≡ true) rep (lent_in s (work s n D)) (lent_counted s n D) some) (lent_held s n limits rep D right.1 some)

-- ---- one deed more: what is lent

module _ (s n : ℕ) (limits : Limits) (deed : Deed) (D : List Deed) (right : AreRightDeeds s n limits (deed ∷ D)) where
  took : TookTurns s n (deed ∷ D)
  took = took_turns s n limits (deed ∷ D) right

  -- a counted reference that is held stays own or granted
  held_stays : (rep : WireRep) → is_counted rep ≡ true → is_held s rep (history_of s n D) ≡ true → is_owned s n rep D ≡ true → is_owned s n rep (deed ∷ D) ≡ true
  held_stays rep counted held is = owned_stays s n rep deed D took (held_kept s n limits rep deed D right.0 counted held) is

  -- what a message has lent stands among all that is lent
  abbrev LendsHeld : Message → Type 0
  LendsHeld m = AllByRecursion (λ rep. 1 ≤ times rep (lent_in s (work s n D))) (loans_of s m)

  lends_still : (m : Message) → LendsOwned s n D m → LendsHeld m → LendsOwned s n (deed ∷ D) m
  lends_still m owned held =
      let lent = copies_apart (λ rep. 1 ≤ times rep (lent_in s (work s n D))) m.copies (all_split _ (target_lent s m.item) (copies_lent m.copies) held).1 in
      all_both (λ (copy : RefCopy). copy.loan ≡ loans.Lent → is_owned s n copy.rep D ≡ true) (λ (copy : RefCopy). copy.loan ≡ loans.Lent → 1 ≤ times copy.rep (lent_in s (work s n D))) (λ (copy : RefCopy). copy.loan ≡ loans.Lent → is_owned s n copy.rep (deed ∷ D) ≡ true)
      (λ copy its some e. owned_stays s n copy.rep deed D took (lent_kept s n limits copy.rep deed D right (some e)) (its e)) m.copies owned lent

  hand_still : HoldsOwned s n D → AllOutstanding (LendsOwned s n (deed ∷ D)) (work s n D)
  hand_still all = hand_both (LendsOwned s n D) LendsHeld (LendsOwned s n (deed ∷ D)) lends_still (work s n D) all.lent (hand_apart s _ (work s n D) (all_stand (lent_in s (work s n D))))

loan_owned : (own usable granted : Bool) (loan : Loan) → (usable ≡ true → granted ≡ true) → (loan ≡ loans.Lent → (own || granted) ≡ true) → loan_after (own || usable) loan ≡ loans.Lent → (own || granted) ≡ true
loan_owned true usable granted loan step its e = refl
loan_owned false true granted loan step its e = step refl
loan_owned false false granted loans.Due step its e = absurd (let clash : loans.Due ≡ loans.Lent = e in cc)
loan_owned false false granted loans.Lent step its e = its refl
loan_owned false false granted loans.Never step its e = absurd (let clash : loans.Never ≡ loans.Lent = e in cc)

-- loans that are made are of what is own or granted
lends_after : (s n : ℕ) (D : List Deed) (m : Message) → LendsOwned s n D m → LendsOwned s n D (message_after s n D m)
unfolding message_after copy_after
lends_after s n D m its = copies m.copies its
  where
    copies : (cs : List RefCopy) → AllByRecursion (λ (copy : RefCopy). copy.loan ≡ loans.Lent → is_owned s n copy.rep D ≡ true) cs → AllByRecursion (λ (copy : RefCopy). copy.loan ≡ loans.Lent → is_owned s n copy.rep D ≡ true) (map (λ copy. copy_after s n D copy) cs)
    copies [] all = tt
    copies (copy ∷ cs) all = (loan_owned (is_own s copy.rep) (is_usable s n copy.rep D) (is_granted (turns s n copy.rep D)) copy.loan (λ usable. (and_parts _ _ usable).0) all.0, copies cs all.1)

-- a message that comes has lent nothing
lends_new : (s n p k : ℕ) (item : Item) (D E : List Deed) → LendsOwned s n E (new_message s n p k item D)
unfolding new_copy
lends_new s n p k item D E = copies (counted_in item)
  where
    none : (b : Bool) → cond b loans.Never loans.Due ≡ loans.Lent → ⊥
    none true e = let clash : loans.Never ≡ loans.Lent = e in cc
    none false e = let clash : loans.Due ≡ loans.Lent = e in cc

    copies : (reps : List WireRep) → AllByRecursion (λ (copy : RefCopy). copy.loan ≡ loans.Lent → is_owned s n copy.rep E ≡ true) (map (λ rep. new_copy s n D rep) reps)
    copies [] = tt
    copies (rep ∷ reps) = (λ e. absurd (none (is_lost s n rep D) e), copies reps)

new_lends : (s n : ℕ) (deed : Deed) (D E : List Deed) → New s n (LendsOwned s n E) (λ m call status value is its. tt) deed D
new_lends s n (did.Act p k) D E = λ item is. lends_new s n p k item (did.Act p k ∷ D) E
new_lends s n deed D E = tt

lent_more : (s n : ℕ) (limits : Limits) (deed : Deed) (D : List Deed) → AreRightDeeds s n limits (deed ∷ D) → HoldsOwned s n D → AllOutstanding (LendsOwned s n (deed ∷ D)) (work s n (deed ∷ D))
lent_more s n limits deed D right all = outstanding_more s n (LendsOwned s n (deed ∷ D)) (λ m call status value is its. tt) deed D (lends_after s n (deed ∷ D)) (new_lends s n deed D (deed ∷ D)) (hand_still s n limits deed D right all)

-- ---- one deed more: the hand

-- where no more is in the hand
hand_less : (s n : ℕ) (limits : Limits) (deed : Deed) (D : List Deed) (rep : WireRep) → AreRightDeeds s n limits (deed ∷ D) → HoldsOwned s n D → is_counted rep ≡ true → 1 ≤ hand rep D → is_owned s n rep (deed ∷ D) ≡ true
hand_less s n limits deed D rep right all counted some = held_stays s n limits deed D right rep counted (hand_held s n limits rep D right.1 some) (all.in_the_hand rep counted some)

-- one reference more came
one_more : (s n : ℕ) (limits : Limits) (deed : Deed) (D : List Deed) (rep other : WireRep) → AreRightDeeds s n limits (deed ∷ D) → HoldsOwned s n D → is_counted rep ≡ true → (is_same rep other ≡ true → is_owned s n rep (deed ∷ D) ≡ true) → (b : Bool) → is_same rep other ≡ b → 1 ≤ length (cond b (other ∷ filter (is_same rep) (gains D)) (filter (is_same rep) (gains D))) - times rep (releases D) → is_owned s n rep (deed ∷ D) ≡ true
one_more s n limits deed D rep other right all counted own true same some = own same
one_more s n limits deed D rep other right all counted own false same some = hand_less s n limits deed D rep right all counted some

pub fewer : (s n : ℕ) (D : List Deed) (rep other : WireRep) (b : Bool) → 1 ≤ times rep (gains D) - length (cond b (other ∷ filter (is_same rep) (releases D)) (filter (is_same rep) (releases D))) → 1 ≤ hand rep D
fewer s n D rep other true some = omega (arith, some)
fewer s n D rep other false some = some

pub either_came : (value_times before gone : ℕ) → 1 ≤ (value_times + before) - gone → (1 ≤ value_times) ⊎ (1 ≤ before - gone)
either_came value_times before gone some =
    elim (nat_le 1 value_times) as (λ (b : Bool). nat_le 1 value_times ≡ b → (1 ≤ value_times) ⊎ (1 ≤ before - gone)) [
      | true ↦ λ e. inl (leb-true 1 value_times e)
      | false ↦ λ e. inr (let few = leb-false 1 value_times e in omega (arith, some, few))
    ] refl

pub times_append : (rep : WireRep) (reps more : List WireRep) → times rep (reps ++ more) ≡ times rep reps + times rep more
times_append rep reps more = ap length (filter-append (is_same rep) reps more) ∙ length-append (filter (is_same rep) reps) (filter (is_same rep) more)

-- all that a message carries is lent, so own or granted
carried_owned : (s n : ℕ) (D : List Deed) (m : Message) → Carries m → IsAllLent m → LendsOwned s n D m → AllByRecursion (λ rep. is_owned s n rep D ≡ true) (counted_in m.item)
carried_owned s n D m carries lent owned = subst (AllByRecursion (λ rep. is_owned s n rep D ≡ true)) carries (copies m.copies lent owned)
  where
    copies : (cs : List RefCopy) → AllByRecursion (λ (copy : RefCopy). copy.loan ≡ loans.Lent) cs → AllByRecursion (λ (copy : RefCopy). copy.loan ≡ loans.Lent → is_owned s n copy.rep D ≡ true) cs → AllByRecursion (λ rep. is_owned s n rep D ≡ true) (map (λ copy. copy.rep) cs)
    copies [] lent all = tt
    copies (copy ∷ cs) lent all = (all.0 lent.0, copies cs lent.1 all.1)

-- what came in a reply that was taken was own or granted
reply_owned : (s n : ℕ) (limits : Limits) (call status : ℕ) (value : Value) (D : List Deed) → AreRightDeeds s n limits (did.TakeReply call status value ∷ D) → HoldsOwned s n D → AllByRecursion (OfCounted (λ rep. is_owned s n rep D ≡ true)) (refs_in value)
unfolding right_after
reply_owned s n limits call status value D right all =
    let told = take_tells call status value (history_of s n D) (was_answered s n limits (did.TakeReply call status value) D right.0) in
    let m : Message = told.1 in
    let replies : List Message = (work s n D).replies in
    let found : find (λ (m : Message). replies_to call m.item) replies ≡ Some m = told.4 in
    let carries = all_found Carries (λ (m : Message). replies_to call m.item) replies m found (all_carry s n D).replies in
    let lent = all_found IsAllLent (λ (m : Message). replies_to call m.item) replies m found (all_lent s n limits D right.1).replies in
    let owned = all_found (LendsOwned s n D) (λ (m : Message). replies_to call m.item) replies m found all.lent.replies in
    all_unfilter (λ rep. is_owned s n rep D ≡ true) is_counted (refs_in value) (subst (λ (item : Item). AllByRecursion (λ rep. is_owned s n rep D ≡ true) (counted_in item)) told.5 (carried_owned s n D m carries lent owned))

taken_owned : (s n : ℕ) (limits : Limits) (call status : ℕ) (value : Value) (D : List Deed) (rep : WireRep) → AreRightDeeds s n limits (did.TakeReply call status value ∷ D) → HoldsOwned s n D → is_counted rep ≡ true → 1 ≤ hand rep (did.TakeReply call status value ∷ D) → is_owned s n rep (did.TakeReply call status value ∷ D) ≡ true
taken_owned s n limits call status value D rep right all counted some =
    elim (either_came (times rep (refs_in value)) (times rep (gains D)) (times rep (releases D)) (subst (λ (m : ℕ). 1 ≤ m - times rep (releases D)) (times_append rep (refs_in value) (gains D)) some)) [
      | inl came ↦ times_some (OfCounted (λ rep. is_owned s n rep D ≡ true)) rep (refs_in value) (reply_owned s n limits call status value D right all) came counted
      | inr before ↦ hand_less s n limits (did.TakeReply call status value) D rep right all counted before
    ]

dup_owned : (s n : ℕ) (limits : Limits) (other : WireRep) (D : List Deed) → AreRightDeeds s n limits (did.Dup other ∷ D) → HoldsOwned s n D → is_owned s n other (did.Dup other ∷ D) ≡ true
unfolding right_after
dup_owned s n limits other D right all =
    let told = dup_tells s other (history_of s n D) (was_answered s n limits (did.Dup other) D right.0) in
    held_owned s n limits other D right.1 all told.0 told.1

hand_more : (s n : ℕ) (limits : Limits) (deed : Deed) (D : List Deed) → AreRightDeeds s n limits (deed ∷ D) → HoldsOwned s n D → (rep : WireRep) → is_counted rep ≡ true → 1 ≤ hand rep (deed ∷ D) → is_owned s n rep (deed ∷ D) ≡ true
hand_more s n limits (did.Export other) D right all rep counted some =
    let next = (objects_in_turn s n limits (did.Export other ∷ D) right).0 in
    one_more s n limits (did.Export other) D rep other right all counted (λ same. or_left _ _ (eq-eqb rep.owner s (ap (λ (r : WireRep). r.owner) (same_ref rep other same) ∙ ap (λ (r : WireRep). r.owner) next))) (is_same rep other) refl some
hand_more s n limits (did.Dup other) D right all rep counted some =
    one_more s n limits (did.Dup other) D rep other right all counted (λ same. subst (λ (r : WireRep). is_owned s n r (did.Dup other ∷ D) ≡ true) (sym (same_ref rep other same)) (dup_owned s n limits other D right all)) (is_same rep other) refl some
hand_more s n limits (did.Release other) D right all rep counted some = hand_less s n limits (did.Release other) D rep right all counted (fewer s n D rep other (is_same rep other) some)
hand_more s n limits (did.TakeReply call status value) D right all rep counted some = taken_owned s n limits call status value D rep right all counted some
hand_more s n limits deed D right all rep counted some = hand_less s n limits deed D rep right all counted some

-- in every list of right deeds what is lent and what is in the hand is own or granted
pub holds_owned : (s n : ℕ) (limits : Limits) (D : List Deed) → AreRightDeeds s n limits D → HoldsOwned s n D
holds_owned s n limits [] right = record { lent = record { waiting = tt; ready = tt; running = tt; replies = tt }; in_the_hand = λ rep counted some. absurd (omega (arith, some)) }
holds_owned s n limits (deed ∷ D) right =
    let before = holds_owned s n limits D right.1 in
    record { lent = lent_more s n limits deed D right before; in_the_hand = hand_more s n limits deed D right before }

-- ---- pins

-- what has pins of what was sent is own or granted
abbrev pub PinsOwned : (s n : ℕ) → List Deed → SentItem → Type 0
PinsOwned s n D one = is_pinned D one ≡ true → AllByRecursion (λ rep. is_owned s n rep D ≡ true) (counted_in one.item)

-- each pin of what was sent is counted
pub pins_stand : (s n : ℕ) (D : List Deed) → AllByRecursion (λ one. is_pinned D one ≡ true → AllByRecursion (λ rep. 1 ≤ pins rep (history_of s n D)) (counted_in one.item)) (sent (history_of s n D))
pins_stand s n D =
    all_unfilter (λ one. AllByRecursion (λ rep. 1 ≤ pins rep (history_of s n D)) (counted_in one.item)) (is_pinned D) (sent (history_of s n D))
    (all_apart (λ rep. 1 ≤ pins rep (history_of s n D)) (λ (one : SentItem). counted_in one.item) (bundles (history_of s n D)) (all_stand (pinned (history_of s n D))))

-- what had pins before stays own or granted
pins_still : (s n : ℕ) (limits : Limits) (deed : Deed) (D : List Deed) → AreRightDeeds s n limits (deed ∷ D) → AllByRecursion (PinsOwned s n D) (sent (history_of s n D)) → AllByRecursion (PinsOwned s n (deed ∷ D)) (sent (history_of s n D))
pins_still s n limits deed D right all =
    let still : (one : SentItem) → PinsOwned s n D one → (is_pinned D one ≡ true → AllByRecursion (λ rep. 1 ≤ pins rep (history_of s n D)) (counted_in one.item)) → is_pinned D one ≡ true → AllByRecursion (λ rep. is_owned s n rep (deed ∷ D) ≡ true) (counted_in one.item) = λ one owned some before.
    all_both (λ rep. is_owned s n rep D ≡ true) (λ rep. 1 ≤ pins rep (history_of s n D)) (λ rep. is_owned s n rep (deed ∷ D) ≡ true)
    (λ rep its pin. owned_stays s n rep deed D (took_turns s n limits (deed ∷ D) right) (pinned_kept s n limits rep deed D right.0 pin) its) (counted_in one.item) (owned before) (some before) in
    all_both (λ (one : SentItem). is_pinned D one ≡ true → AllByRecursion (λ rep. is_owned s n rep (deed ∷ D) ≡ true) (counted_in one.item)) (λ (one : SentItem). is_pinned (deed ∷ D) one ≡ true → is_pinned D one ≡ true) (PinsOwned s n (deed ∷ D))
    (λ one owned before is. owned (before is)) (sent (history_of s n D))
    (all_both (PinsOwned s n D) (λ (one : SentItem). is_pinned D one ≡ true → AllByRecursion (λ rep. 1 ≤ pins rep (history_of s n D)) (counted_in one.item)) (λ (one : SentItem). is_pinned D one ≡ true → AllByRecursion (λ rep. is_owned s n rep (deed ∷ D) ≡ true) (counted_in one.item)) still (sent (history_of s n D)) all (pins_stand s n D))
    (pinned_earlier s n limits deed D right)

-- ---- what is handed on

-- all that a gift carries is own or granted
abbrev pub CarriesOwned : (s n : ℕ) → List Deed → Gift → Type 0
CarriesOwned s n D gift = AllByRecursion (λ rep. is_owned s n rep D ≡ true) (counted_in gift.item)

value_owned : (s n : ℕ) (limits : Limits) (deed : Deed) (value : Value) (D : List Deed) → AreRightDeeds s n limits (deed ∷ D) → HoldsOwned s n D → value_refused s (history_of s n D) value ≡ None → AllByRecursion (λ rep. is_owned s n rep (deed ∷ D) ≡ true) (filter is_counted (refs_in value))
value_owned s n limits deed value D right all e =
    all_both (λ rep. is_counted rep ≡ true) (λ rep. is_held s rep (history_of s n D) ≡ true) (λ rep. is_owned s n rep (deed ∷ D) ≡ true)
    (λ rep counted held. held_stays s n limits deed D right rep counted held (held_owned s n limits rep D right.1 all counted held))
    (filter is_counted (refs_in value)) (all_pass is_counted (refs_in value))
    (refs_held s (history_of s n D) (filter is_counted (refs_in value)) (next_none (is_faulty (pickle_of value)) refusals.TooBig (refs_refused s (history_of s n D) (filter is_counted (refs_in value))) e).1)

reply_carries : (s n : ℕ) (E : List Deed) (p : ℕ) (item : Item) (outcome : Outcome) → AllByRecursion (λ rep. is_owned s n rep E ≡ true) (filter is_counted (refs_in (value_of outcome))) → AllByRecursion (CarriesOwned s n E) (reply_to p item outcome)
unfolding reply_to
reply_carries s n E p (items.Call call target method value) outcome all = (all, tt)
reply_carries s n E p (items.Reply call status value) outcome all = tt
reply_carries s n E p (items.Settle item) outcome all = tt
reply_carries s n E p (items.Dirty index) outcome all = tt
reply_carries s n E p (items.DirtyOk index) outcome all = tt
reply_carries s n E p (items.DirtyNo index) outcome all = tt
reply_carries s n E p (items.Clean index) outcome all = tt

lost_carries : (s n : ℕ) (E : List Deed) (p : ℕ) (item : Item) (lost : Bool) → AllByRecursion (CarriesOwned s n E) (lost_call_reply p item lost)
unfolding lost_call_reply
lost_carries s n E p (items.Call call target method value) true = (tt, tt)
lost_carries s n E p (items.Call call target method value) false = tt
lost_carries s n E p (items.Reply call status value) lost = tt
lost_carries s n E p (items.Settle item) lost = tt
lost_carries s n E p (items.Dirty index) lost = tt
lost_carries s n E p (items.DirtyOk index) lost = tt
lost_carries s n E p (items.DirtyNo index) lost = tt
lost_carries s n E p (items.Clean index) lost = tt

settle_carries : (s n : ℕ) (E : List Deed) (p k : ℕ) (D : List Deed) (found : Option Message) → AllByRecursion (CarriesOwned s n E) (gifts_of_settle s n p k D found)
unfolding gifts_of_settle
settle_carries s n E p k D None = tt
settle_carries s n E p k D (Some m) = (tt, lost_carries s n E p m.item (is_lost_message s n D m))

dirties_carry : (s n : ℕ) (E : List Deed) (reps : List WireRep) → AllByRecursion (CarriesOwned s n E) (map dirty_for reps)
unfolding dirty_for
dirties_carry s n E [] = tt
dirties_carry s n E (rep ∷ reps) = (tt, dirties_carry s n E reps)

wanted_carry : (s n : ℕ) (E D : List Deed) (reps : List WireRep) → AllByRecursion (CarriesOwned s n E) (dirties_for s n D reps)
unfolding dirties_for
wanted_carry s n E D reps = dirties_carry s n E _

answer_carries : (s n : ℕ) (E : List Deed) (p index : ℕ) (alive known : Bool) → AllByRecursion (CarriesOwned s n E) (cond alive (record { to = p; item = items.DirtyOk index } ∷ []) (cond known (record { to = p; item = items.DirtyNo index } ∷ []) []))
answer_carries s n E p index true known = (tt, tt)
answer_carries s n E p index false true = (tt, tt)
answer_carries s n E p index false false = tt

act_carries : (s n : ℕ) (E : List Deed) (p : ℕ) (D : List Deed) (found : Option Item) → AllByRecursion (CarriesOwned s n E) (gifts_of_act s n p D found)
unfolding gifts_of_act answer_to
act_carries s n E p D None = tt
act_carries s n E p D (Some (items.Call call target method value)) = wanted_carry s n E D (counted_in (items.Call call target method value))
act_carries s n E p D (Some (items.Reply call status value)) = wanted_carry s n E D (counted_in (items.Reply call status value))
act_carries s n E p D (Some (items.Settle item)) = tt
act_carries s n E p D (Some (items.Dirty index)) = answer_carries s n E p index (is_live s index D) (is_exported s index D)
act_carries s n E p D (Some (items.DirtyOk index)) = tt
act_carries s n E p D (Some (items.DirtyNo index)) = tt
act_carries s n E p D (Some (items.Clean index)) = tt

clean_carries : (s n : ℕ) (E : List Deed) (rep : WireRep) (asks : Bool) → AllByRecursion (CarriesOwned s n E) (cond asks (record { to = rep.owner; item = items.Clean rep.index } ∷ []) [])
clean_carries s n E rep true = (tt, tt)
clean_carries s n E rep false = tt

-- what a right deed gives carries what is own or granted
gifts_carry : (s n : ℕ) (limits : Limits) (deed : Deed) (D : List Deed) → AreRightDeeds s n limits (deed ∷ D) → HoldsOwned s n D → AllByRecursion (CarriesOwned s n (deed ∷ D)) (gifts_of s n deed D (work s n D))
unfolding right_after gifts_of gifts_of_finish
gifts_carry s n limits (did.Call target method value call) D right all =
    let told = call_tells s n target value call (history_of s n D) (was_answered s n limits (did.Call target method value call) D right.0) in
    (value_owned s n limits (did.Call target method value call) value D right all told.4, tt)
gifts_carry s n limits (did.Finish job outcome) D right all =
    let told = finish_tells s job outcome (history_of s n D) (was_answered s n limits (did.Finish job outcome) D right.0) in
    subst (λ (found : Option Run). AllByRecursion (CarriesOwned s n (did.Finish job outcome ∷ D)) (gifts_of_finish outcome found)) (sym told.1) (reply_carries s n (did.Finish job outcome ∷ D) told.0.message.from told.0.message.item outcome (value_owned s n limits (did.Finish job outcome) (value_of outcome) D right all told.3))
gifts_carry s n limits (did.Act p k) D right all = act_carries s n (did.Act p k ∷ D) p D (item_at p k D)
gifts_carry s n limits (did.Settle p k) D right all = settle_carries s n (did.Settle p k ∷ D) p k D (find (is_of p k) (work s n D).waiting)
gifts_carry s n limits (did.Clean rep) D right all = clean_carries s n (did.Clean rep ∷ D) rep (turns s n rep D).asks
gifts_carry s n limits deed D right all = tt

new_pins : (s n : ℕ) (D older : List Deed) (more : List Gift) (before : List SentItem) → AllByRecursion (CarriesOwned s n D) more → AllByRecursion (PinsOwned s n D) (new_items older before more)
new_pins s n D older [] before all = tt
new_pins s n D older (gift ∷ more) before all = (λ is. all.0, new_pins s n D older more (before ++ next_sent older before gift ∷ []) all.1)

-- in every list of right deeds what has pins of what was sent is own or granted
pub pins_owned : (s n : ℕ) (limits : Limits) (D : List Deed) → AreRightDeeds s n limits D → AllByRecursion (PinsOwned s n D) (sent (history_of s n D))
unfolding gifts
pins_owned s n limits [] right = tt
pins_owned s n limits (deed ∷ D) right =
    subst (AllByRecursion (PinsOwned s n (deed ∷ D))) (sym (sent_more s n deed D))
    (all_append (PinsOwned s n (deed ∷ D)) (sent (history_of s n D)) _ (pins_still s n limits deed D right (pins_owned s n limits D right.1))
    (new_pins s n (deed ∷ D) D (gifts s n deed D (work s n D)) (sent (history_of s n D)) (all_filter (CarriesOwned s n (deed ∷ D)) (λ (gift : Gift). is_peer s n gift.to) (gifts_of s n deed D (work s n D)) (gifts_carry s n limits deed D right (holds_owned s n limits D right.1)))))

filtered : {X : Type 0} (P : X → Type 0) (test : X → Bool) (xs : List X) → AllByRecursion (λ x. test x ≡ true → P x) xs → AllByRecursion P (filter test xs)
filtered P test [] all = tt
filtered P test (x ∷ xs) all = keep (filtered P test xs all.1) (test x) refl
  where
    keep : AllByRecursion P (filter test xs) → (b : Bool) → test x ≡ b → AllByRecursion P (cond b (x ∷ filter test xs) (filter test xs))
    keep rest true is = (all.0 is, rest)
    keep rest false is = rest

-- so it is with every reference that has pins
pub pinned_owned : (s n : ℕ) (limits : Limits) (rep : WireRep) (D : List Deed) → AreRightDeeds s n limits D → 1 ≤ pins rep (history_of s n D) → is_owned s n rep D ≡ true
pinned_owned s n limits rep D right some =
    times_some (λ r. is_owned s n r D ≡ true) rep (pinned (history_of s n D))
    (all_joined (λ r. is_owned s n r D ≡ true) (λ (one : SentItem). counted_in one.item) (bundles (history_of s n D)) (filtered (λ (one : SentItem). AllByRecursion (λ r. is_owned s n r D ≡ true) (counted_in one.item)) (is_pinned D) (sent (history_of s n D)) (pins_owned s n limits D right))) some
