-- A message that waits goes on waiting until it is settled or its session closes.
use Rattle.std.proofs.Common.{◌≡◌, ℕ, ◌≤◌, ◌||◌, Bool, true, false, cond, List, [], ◌∷◌, ◌++◌, length, map, filter, find, Option, Some, None, if◌then◌else◌, refl, sym, ap, subst, ◌∙◌, arith, ◌⊎◌, inl, inr}
use Rattle.std.specs.Prelude.{◌==◌}
use Rattle.std.specs.List.{AllByRecursion}
use Rattle.std.proofs.lemmas.Bool.{eqb-true, eq-eqb, and_parts, and_from, or_parts, or_left, or_right, both_ways, not_from_false, false_from_ne_true}
use Rattle.nob_ids.specs.declared.limits.Limits.{Limits}
use Rattle.nob_ids.specs.declared.wire_rep.WireRep.{WireRep}
use Rattle.nob_pickle.specs.declared.value.Value.{Value}
use Rattle.nob_item.specs.Kinds.{counted_in}
use Rattle.nob_item.specs.declared.item.Item.{Item}
use Rattle.nob_item.specs.declared.item.Item.TheVariants as items
use Rattle.nob_model_types.specs.declared.answer.Job.{Job}
use Rattle.nob_model_types.specs.declared.deed.Deed.{Deed}
use Rattle.nob_model_types.specs.declared.deed.Deed.TheVariants as did
use Rattle.nob_model_types.specs.declared.message.Message.{Message}
use Rattle.nob_model_types.specs.declared.message.RefCopy.{RefCopy}
use Rattle.nob_model_types.specs.Sessions.{item_at, closed, number}
use Rattle.nob_model_types.specs.Messages.{new_message, new_copy, message_after, is_of, is_not_from, is_job, is_lost_message}
use Rattle.nob_model_work.specs.declared.work.Outstanding.{Outstanding}
use Rattle.nob_model_work.specs.Work.{without_first, wait, make_ready, make_reply, is_none_of, is_not_reply, after_message, after_act, after_settlement, without_waiting, after_settle, after_claim, after_finish, after_take, after_end, after_call, after_close, work_after, with_loans, work}
use Rattle.nob_model_history.specs.Histories.{history_of}
use Rattle.nob_model_history.specs.Transit.{is_some_of}
use Rattle.nob_model.specs.Right.{right_after}
use Rattle.nob_model.specs.Lists.{IsRightDeed, AreRightDeeds}
use Rattle.nob_model.proofs.Accepted.{take_tells}
use Rattle.nob_model.proofs.Doing.{was_answered}
use Rattle.nob_model.proofs.Replying.{is_reply, replies_in, answered_once}
use Rattle.nob_model.proofs.Waiting.{settled_message, all_weaker}
use Rattle.nob_model_invariant.proofs.Opened.{opens_above}
use Rattle.nob_model_holdings.proofs.Lists.{any_push}
use Rattle.nob_model_invariant.specs.Copies.{is_waiting}

-- ---- lists of messages

-- loans change no sender and no number
waits_mapped : (s n p k : ℕ) (D : List Deed) (ms : List Message) → is_waiting p k (map (λ m. message_after s n D m) ms) ≡ is_waiting p k ms
unfolding message_after
waits_mapped s n p k D [] = refl
waits_mapped s n p k D (m ∷ ms) = ap (λ (b : Bool). is_of p k m || b) (waits_mapped s n p k D ms)

waits_pushed : (p k : ℕ) (ms : List Message) (m : Message) → is_waiting p k ms ≡ true → is_waiting p k (ms ++ m ∷ []) ≡ true
waits_pushed p k ms m waits = any_push (is_of p k) ms m ∙ or_left (is_waiting p k ms) (is_of p k m) waits

-- a message is left by a test that it passes
waits_filtered : (p k : ℕ) (test : Message → Bool) (ms : List Message) → AllByRecursion (λ m. is_of p k m ≡ true → test m ≡ true) ms → is_waiting p k ms ≡ true → is_waiting p k (filter test ms) ≡ true
waits_filtered p k test [] all waits = cc
waits_filtered p k test (m ∷ ms) all waits = by (waits_filtered p k test ms all.1) (is_of p k m) refl (test m) refl waits
  where
    by : (is_waiting p k ms ≡ true → is_waiting p k (filter test ms) ≡ true) → (own : Bool) → is_of p k m ≡ own → (kept : Bool) → test m ≡ kept → (own || is_waiting p k ms) ≡ true → is_waiting p k (cond kept (m ∷ filter test ms) (filter test ms)) ≡ true
    by rest true own true kept either = or_left (is_of p k m) _ own
    by rest true own false kept either = absurd (both_ways (test m) kept (all.0 own))
    by rest false own true kept either = or_right (is_of p k m) _ (rest either)
    by rest false own false kept either = rest either

same_item : (p k q j : ℕ) (m : Message) → is_of q j m ≡ true → is_of p k m ≡ true → (q ≡ p) × (j ≡ k)
same_item p k q j m one other =
    let its = and_parts (m.from == q) (m.number == j) one in
    let own = and_parts (m.from == p) (m.number == k) other in
    (sym (eqb-true m.from q its.0) ∙ eqb-true m.from p own.0, sym (eqb-true m.number j its.1) ∙ eqb-true m.number k own.1)

-- without the first that is of an item, a message is left, or is of that item
waits_without : (p k q j : ℕ) (ms : List Message) → is_waiting p k ms ≡ true → (is_waiting p k (without_first (is_of q j) ms) ≡ true) ⊎ ((q ≡ p) × (j ≡ k))
waits_without p k q j [] waits = cc
waits_without p k q j (m ∷ ms) waits = by (waits_without p k q j ms) (is_of q j m) refl (is_of p k m) refl waits
  where
    by : (is_waiting p k ms ≡ true → (is_waiting p k (without_first (is_of q j) ms) ≡ true) ⊎ ((q ≡ p) × (j ≡ k))) → (taken : Bool) → is_of q j m ≡ taken → (own : Bool) → is_of p k m ≡ own → (own || is_waiting p k ms) ≡ true → (is_waiting p k (if taken then ms else m ∷ without_first (is_of q j) ms) ≡ true) ⊎ ((q ≡ p) × (j ≡ k))
    by rest true taken true own either = inr (same_item p k q j m taken own)
    by rest true taken false own either = inl either
    by rest false taken true own either = inl (or_left (is_of p k m) _ own)
    by rest false taken false own either = behind (rest either)
      where
        behind : (is_waiting p k (without_first (is_of q j) ms) ≡ true) ⊎ ((q ≡ p) × (j ≡ k)) → ((is_of p k m || is_waiting p k (without_first (is_of q j) ms)) ≡ true) ⊎ ((q ≡ p) × (j ≡ k))
        behind (inl left) = inl (or_right (is_of p k m) _ left)
        behind (inr same) = inr same

-- ---- the Reply that is taken is the only one to its call

none_some : {X : Type 0} (x : X) → None ≡ Some x → ⊥
none_some x e = cc

-- what is found is counted
found_counts : {X : Type 0} (test : X → Bool) (xs : List X) (x : X) → find test xs ≡ Some x → 1 ≤ length (filter test xs)
found_counts test [] x found = absurd (none_some x found)
found_counts test (y ∷ xs) x found = by (found_counts test xs x) (test y) found
  where
    by : (find test xs ≡ Some x → 1 ≤ length (filter test xs)) → (b : Bool) → cond b (Some y) (find test xs) ≡ Some x → 1 ≤ length (cond b (y ∷ filter test xs) (filter test xs))
    by rest true here = omega arith
    by rest false there = rest there

-- where none passes a test, each fails it
none_passes : {X : Type 0} (test : X → Bool) (xs : List X) → length (filter test xs) ≡ 0 → AllByRecursion (λ x. test x ≡ false) xs
none_passes test [] none = tt
none_passes test (x ∷ xs) none = by (none_passes test xs) (test x) refl none
  where
    by : (length (filter test xs) ≡ 0 → AllByRecursion (λ x. test x ≡ false) xs) → (b : Bool) → test x ≡ b → length (cond b (x ∷ filter test xs) (filter test xs)) ≡ 0 → (test x ≡ false) × AllByRecursion (λ x. test x ≡ false) xs
    by rest true is none = absurd (omega (arith, none))
    by rest false is none = (is, rest none)

-- no message that waits is a Reply to the call whose reply is taken
reply_taken : (s n : ℕ) (limits : Limits) (call status : ℕ) (value : Value) (D : List Deed) → AreRightDeeds s n limits (did.TakeReply call status value ∷ D) → AllByRecursion (λ m. is_not_reply call m ≡ true) (work s n D).waiting
unfolding right_after
reply_taken s n limits call status value D right =
    let W : Outstanding = work s n D in
    let told = take_tells call status value (history_of s n D) (was_answered s n limits (did.TakeReply call status value) D right.0) in
    let once : replies_in call W ≤ 1 = (answered_once s n limits D right.1).once call in
    let some : 1 ≤ length (filter (is_reply call) W.replies) = found_counts (is_reply call) W.replies told.1 told.4 in
    let none : length (filter (is_reply call) W.waiting) ≡ 0 = omega (arith, once, some) in
    all_weaker (λ m. is_reply call m ≡ false) (λ m. is_not_reply call m ≡ true) (λ m isnt. not_from_false (is_reply call m) isnt) W.waiting (none_passes (is_reply call) W.waiting none)

-- ---- one deed more

module _ (p k : ℕ) where
  either_keeps : (b : Bool) (one other : Outstanding) → is_waiting p k one.waiting ≡ true → is_waiting p k other.waiting ≡ true → is_waiting p k (cond b one other).waiting ≡ true
  either_keeps true one other its rest = its
  either_keeps false one other its rest = rest

  message_keeps : (m : Message) (item : Item) (W : Outstanding) → is_waiting p k W.waiting ≡ true → is_waiting p k (after_message m item W).waiting ≡ true
  unfolding after_message
  message_keeps m (items.Call call target method value) W waits = either_keeps (is_none_of m.copies) (make_ready m W) (wait m W) waits (waits_pushed p k W.waiting m waits)
  message_keeps m (items.Reply call status value) W waits = either_keeps (is_none_of m.copies) (make_reply m W) (wait m W) waits (waits_pushed p k W.waiting m waits)
  message_keeps m (_) W waits = waits

  act_keeps : (s n q j : ℕ) (D : List Deed) (found : Option Item) (W : Outstanding) → is_waiting p k W.waiting ≡ true → is_waiting p k (after_act s n q j D found W).waiting ≡ true
  unfolding after_act
  act_keeps s n q j D None W waits = waits
  act_keeps s n q j D (Some item) W waits = message_keeps (new_message s n q j item (did.Act q j ∷ D)) item W waits

  settlement_keeps : (m : Message) (item : Item) (lost : Bool) (W : Outstanding) → is_waiting p k W.waiting ≡ true → is_waiting p k (after_settlement m item lost W).waiting ≡ true
  unfolding after_settlement
  settlement_keeps m (items.Call call target method value) true W waits = waits
  settlement_keeps m (items.Call call target method value) false W waits = waits
  settlement_keeps m (items.Reply call status value) true W waits = waits
  settlement_keeps m (items.Reply call status value) false W waits = waits
  settlement_keeps m (_) lost W waits = waits

  claim_keeps : (job : Job) (found : Option Message) (W : Outstanding) → is_waiting p k W.waiting ≡ true → is_waiting p k (after_claim job found W).waiting ≡ true
  unfolding after_claim
  claim_keeps job None W waits = waits
  claim_keeps job (Some m) W waits = waits

  -- a Settle of another message leaves it
  settle_keeps : (s n q j : ℕ) (D : List Deed) (m : Message) (W : Outstanding) → find (is_of q j) W.waiting ≡ Some m → (is_waiting p k (without_first (is_of q j) W.waiting) ≡ true) ⊎ ((q ≡ p) × (j ≡ k)) → (is_waiting p k (after_settle s n q j D (find (is_of q j) W.waiting) W).waiting ≡ true) ⊎ (did.Settle q j ≡ did.Settle p k)
  unfolding after_settle
  settle_keeps s n q j D m W found (inl left) = inl (subst (λ (one : Option Message). is_waiting p k (after_settle s n q j D one W).waiting ≡ true) (sym found) (settlement_keeps m m.item (is_lost_message s n D m) (without_waiting q j W) left))
  settle_keeps s n q j D m W found (inr same) = inr (ap (λ (r : ℕ). did.Settle r j) same.0 ∙ ap (λ (i : ℕ). did.Settle p i) same.1)

  not_of_closed : (q : ℕ) (m : Message) → (q == p) ≡ false → is_of p k m ≡ true → is_not_from q m ≡ true
  not_of_closed q m apart own =
      let from : m.from ≡ p = eqb-true m.from p (and_parts (m.from == p) (m.number == k) own).0 in
      not_from_false (m.from == q) (false_from_ne_true (m.from == q) (λ same. both_ways (q == p) apart (eq-eqb q p (sym (eqb-true m.from q same) ∙ from))))

  all_of : {X : Type 0} (P : X → Type 0) → ((x : X) → P x) → (xs : List X) → AllByRecursion P xs
  all_of P its [] = tt
  all_of P its (x ∷ xs) = (its x, all_of P its xs)

  deed_keeps : (s n : ℕ) (limits : Limits) (deed : Deed) (D : List Deed) → AreRightDeeds s n limits (deed ∷ D) → closed p (deed ∷ D) ≡ false → is_waiting p k (work s n D).waiting ≡ true → (is_waiting p k (work_after s n deed D (work s n D)).waiting ≡ true) ⊎ (deed ≡ did.Settle p k)
  unfolding work_after after_call after_take after_end after_finish after_close
  deed_keeps s n limits (did.Act q j) D right up waits = inl (act_keeps s n q j D (item_at q j D) (work s n D) waits)
  deed_keeps s n limits (did.Settle q j) D right up waits =
      let told = settled_message s n limits q j D right in
      settle_keeps s n q j D told.0 (work s n D) told.4 (waits_without p k q j (work s n D).waiting waits)
  deed_keeps s n limits (did.Claim job) D right up waits = inl (claim_keeps job (find (is_job job) (work s n D).ready) (work s n D) waits)
  deed_keeps s n limits (did.TakeReply call status value) D right up waits =
      inl (waits_filtered p k (is_not_reply call) (work s n D).waiting (all_weaker (λ m. is_not_reply call m ≡ true) (λ m. is_of p k m ≡ true → is_not_reply call m ≡ true) (λ m passes own. passes) (work s n D).waiting (reply_taken s n limits call status value D right)) waits)
  deed_keeps s n limits (did.Closing q reason cause) D right up waits =
      inl (waits_filtered p k (is_not_from q) (work s n D).waiting (all_of (λ m. is_of p k m ≡ true → is_not_from q m ≡ true) (λ m. not_of_closed q m (or_parts (q == p) (closed p D) up).0) (work s n D).waiting) waits)
  deed_keeps s n limits (did.Call target method value call) D right up waits = inl waits
  deed_keeps s n limits (did.TakeEnd call) D right up waits = inl waits
  deed_keeps s n limits (did.Finish job outcome) D right up waits = inl waits
  deed_keeps s n limits (did.DropReply job) D right up waits = inl waits
  deed_keeps s n limits deed D right up waits = inl waits

  -- a message waits on after a right deed that doesn't close its session, unless that settles it
  pub waits_on : (s n : ℕ) (limits : Limits) (deed : Deed) (D : List Deed) → AreRightDeeds s n limits (deed ∷ D) → closed p (deed ∷ D) ≡ false → is_waiting p k (work s n D).waiting ≡ true → (is_waiting p k (work s n (deed ∷ D)).waiting ≡ true) ⊎ (deed ≡ did.Settle p k)
  unfolding with_loans
  waits_on s n limits deed D right up waits = by (deed_keeps s n limits deed D right up waits)
    where
      by : (is_waiting p k (work_after s n deed D (work s n D)).waiting ≡ true) ⊎ (deed ≡ did.Settle p k) → (is_waiting p k (work s n (deed ∷ D)).waiting ≡ true) ⊎ (deed ≡ did.Settle p k)
      by (inl still) = inl (waits_mapped s n p k (deed ∷ D) (work_after s n deed D (work s n D)).waiting ∙ still)
      by (inr settles) = inr settles

-- ---- waiting, or on a session that closed

-- whether the message of item k from p waits, or the session with p has closed here
abbrev pub rests : (s n p k : ℕ) → List Deed → Bool
rests s n p k D = is_waiting p k (work s n D).waiting || closed p D

-- what leaves the number of a session opens none: where it is open it was open before
pub open_before : (s n p : ℕ) (limits : Limits) (deed : Deed) (D : List Deed) → IsRightDeed s n limits deed D → number p (deed ∷ D) ≡ number p D → closed p (deed ∷ D) ≡ false → closed p D ≡ false
open_before s n p limits (did.Closing q reason cause) D right same up = (or_parts (q == p) (closed p D) up).1
open_before s n p limits (did.Open q k) D right same up = by (q == p) refl up
  where
    by : (own : Bool) → (q == p) ≡ own → cond own false (closed p D) ≡ false → closed p D ≡ false
    by true own is = absurd (let above = opens_above s n p limits (did.Open q k) D right own in omega (arith, above, same))
    by false other is = is
open_before s n p limits deed D right same up = up

pub or_false : (b c : Bool) → c ≡ false → (b || c) ≡ true → b ≡ true
or_false true c none either = refl
or_false false c none either = absurd (both_ways c none either)

-- so it stays while the space is in the session, unless it is settled
pub rests_on : (s n : ℕ) (limits : Limits) (p k : ℕ) (deed : Deed) (D : List Deed) → AreRightDeeds s n limits (deed ∷ D) → number p (deed ∷ D) ≡ number p D → rests s n p k D ≡ true → (rests s n p k (deed ∷ D) ≡ true) ⊎ (deed ≡ did.Settle p k)
rests_on s n limits p k deed D right same rest = by (closed p (deed ∷ D)) refl
  where
    on : (up : Bool) → (is_waiting p k (work s n (deed ∷ D)).waiting ≡ true) ⊎ (deed ≡ did.Settle p k) → ((is_waiting p k (work s n (deed ∷ D)).waiting || up) ≡ true) ⊎ (deed ≡ did.Settle p k)
    on up (inl waits) = inl (or_left (is_waiting p k (work s n (deed ∷ D)).waiting) up waits)
    on up (inr settles) = inr settles

    by : (b : Bool) → closed p (deed ∷ D) ≡ b → (rests s n p k (deed ∷ D) ≡ true) ⊎ (deed ≡ did.Settle p k)
    by true shut = inl (or_right (is_waiting p k (work s n (deed ∷ D)).waiting) (closed p (deed ∷ D)) shut)
    by false up = on (closed p (deed ∷ D)) (waits_on p k s n limits deed D right up (or_false (is_waiting p k (work s n D).waiting) (closed p D) (open_before s n p limits deed D right.0 same up) rest))

-- ---- the message that comes

some_copies : (f : WireRep → RefCopy) (reps : List WireRep) → is_some_of reps ≡ true → is_none_of (map f reps) ≡ false
some_copies f [] some = cc
some_copies f (rep ∷ reps) some = refl

comes_last : (p k : ℕ) (ms : List Message) (m : Message) → is_of p k m ≡ true → is_waiting p k (ms ++ m ∷ []) ≡ true
comes_last p k ms m own = any_push (is_of p k) ms m ∙ or_right (is_waiting p k ms) (is_of p k m) own

message_comes : (p k : ℕ) (m : Message) (item : Item) (W : Outstanding) → is_some_of (counted_in item) ≡ true → is_none_of m.copies ≡ false → is_of p k m ≡ true → is_waiting p k (after_message m item W).waiting ≡ true
unfolding after_message
message_comes p k m (items.Call call target method value) W some copied own = ap (λ (b : Bool). is_waiting p k (cond b (make_ready m W) (wait m W)).waiting) copied ∙ comes_last p k W.waiting m own
message_comes p k m (items.Reply call status value) W some copied own = ap (λ (b : Bool). is_waiting p k (cond b (make_reply m W) (wait m W)).waiting) copied ∙ comes_last p k W.waiting m own
message_comes p k m (items.Settle item) W some copied own = cc
message_comes p k m (items.Dirty index) W some copied own = cc
message_comes p k m (items.DirtyOk index) W some copied own = cc
message_comes p k m (items.DirtyNo index) W some copied own = cc
message_comes p k m (items.Clean index) W some copied own = cc

-- a message with counted references waits once it is acted on
pub waits_new : (s n p k : ℕ) (item : Item) (D : List Deed) → item_at p k D ≡ Some item → is_some_of (counted_in item) ≡ true → is_waiting p k (work s n (did.Act p k ∷ D)).waiting ≡ true
unfolding work_after after_act with_loans
waits_new s n p k item D found some =
    waits_mapped s n p k (did.Act p k ∷ D) (work_after s n (did.Act p k) D (work s n D)).waiting
    ∙ ap (λ (one : Option Item). is_waiting p k (after_act s n p k D one (work s n D)).waiting) found
    ∙ message_comes p k (new_message s n p k item (did.Act p k ∷ D)) item (work s n D) some (some_copies (λ rep. new_copy s n (did.Act p k ∷ D) rep) (counted_in item) some) (and_from (p == p) (k == k) (eq-eqb p p refl) (eq-eqb k k refl))

pub rests_new : (s n p k : ℕ) (item : Item) (D : List Deed) → item_at p k D ≡ Some item → is_some_of (counted_in item) ≡ true → rests s n p k (did.Act p k ∷ D) ≡ true
rests_new s n p k item D found some = or_left _ _ (waits_new s n p k item D found some)
