-- How many messages there are at a space: no more than the limit, on every list of right deeds.
use Rattle.std.proofs.Common.{◌≡◌, ℕ, ◌+◌, ◌≤◌, Bool, true, false, cond, not, ◌||◌, nat_le, List, [], ◌∷◌, length, find, Option, Some, None, if◌then◌else◌, refl, sym, subst, arith}
use Prim.Native.Nat.{suc}
use Rattle.std.proofs.lemmas.Bool.Decides.{nat_tests}
use Rattle.std.proofs.lemmas.List.{length-append, length-map}
use Rattle.std.proofs.lemmas.Option.{none-some}
use Rattle.nob_ids.specs.declared.limits.Limits.{Limits}
use Rattle.nob_item.specs.declared.item.Item.{Item}
use Rattle.nob_item.specs.declared.item.Item.TheVariants as items
use Rattle.nob_model_types.specs.declared.answer.Job.{Job}
use Rattle.nob_model_types.specs.declared.refusal.Refusal.TheVariants as refusals
use Rattle.nob_model_types.specs.declared.deed.Deed.{Deed}
use Rattle.nob_model_types.specs.declared.deed.Deed.TheVariants.{TakeReply, Claim, Finish, DropReply, Act, Settle, Closing}
use Rattle.nob_model_types.specs.declared.message.Message.{Message}
use Rattle.nob_model_types.specs.Sessions.{item_at}
use Rattle.nob_model_types.specs.Messages.{new_message, message_after, is_of, is_not_from, is_job, is_lost_message}
use Rattle.nob_model_work.specs.declared.work.Outstanding.{Outstanding}
use Rattle.nob_model_work.specs.declared.work.Run.{Run}
use Rattle.nob_model_work.specs.Work.{work, work_after, with_loans, run_after, wait, make_ready, make_reply, with_calls, call_after_reply, is_none_of, lost_reply, is_run, is_not_reply, without_first, without_waiting, after_message, after_act, after_settlement, after_settle, after_claim, after_finish, after_take, after_end, after_call, after_close}
use Rattle.nob_model_history.specs.Histories.{history_of}
use Rattle.nob_model_acting.specs.Acting.{messages, is_too_much, message_refusal, act_refusal}
use Rattle.nob_model.specs.Lists.{AreRightDeeds}
use Rattle.nob_model.specs.Right.{right_after}
use Rattle.nob_model.proofs.Accepted.{act_tells}
use Rattle.nob_model.proofs.Doing.{was_answered}
use Rattle.nob_model.proofs.Premises.{front_item, in_turn}
use Rattle.nob_space_items.proofs.Bounded.{filter_short}

-- ---- lists

one_fewer : {A : Type 0} (test : A → Bool) (xs : List A) (m : A) → find test xs ≡ Some m → length (without_first test xs) + 1 ≡ length xs
one_fewer test [] m found = absurd (none-some m found)
one_fewer test (x ∷ xs) m found = elim (test x) as (λ b. cond b (Some x) (find test xs) ≡ Some m → length (if b then xs else x ∷ without_first test xs) + 1 ≡ suc (length xs)) [
  | true ↦ λ _. omega arith
  | false ↦ λ there. let rest = one_fewer test xs m there in omega (arith, rest)
] found

-- ---- what is outstanding

ready_one : (m : Message) (W : Outstanding) → messages (make_ready m W) ≡ messages W + 1
ready_one m W = let more = length-append W.ready (m ∷ []) in omega (arith, more)

wait_one : (m : Message) (W : Outstanding) → messages (wait m W) ≡ messages W + 1
wait_one m W = let more = length-append W.waiting (m ∷ []) in omega (arith, more)

reply_one : (m : Message) (W : Outstanding) → messages (make_reply m W) ≡ messages W + 1
reply_one m W = let more = length-append W.replies (m ∷ []) in omega (arith, more)

-- loans change no number
loans_as_many : (s n : ℕ) (D : List Deed) (W : Outstanding) → messages (with_loans s n D W) ≡ messages W
unfolding with_loans
loans_as_many s n D W = λ i. length-map W.waiting (λ message. message_after s n D message) i + length-map W.ready (λ message. message_after s n D message) i + length-map W.running (λ run. run_after s n D run) i + length-map W.replies (λ message. message_after s n D message) i

-- ---- deeds

none_refused : (much numbers : Bool) → (if much then Some refusals.Limit else if not numbers then Some refusals.SeqEnd else None) ≡ None → much ≡ false
none_refused true numbers e = absurd (none-some refusals.Limit (sym e))
none_refused false numbers e = refl

first_false : (a b : Bool) → (a || b) ≡ false → a ≡ false
first_false true b e = absurd (cc)
first_false false b e = refl

-- where a Call or a Reply is acted on there is room for a message
room_for : (s n : ℕ) (item : Item) (D : List Deed) → message_refusal s n item (history_of s n D) ≡ None → messages (work s n D) + 1 ≤ 65536
unfolding message_refusal is_too_much
room_for s n item D none =
    let low : nat_le 65536 (messages (work s n D)) ≡ false = first_false _ _ (none_refused _ _ none) in
    grind (arith, nat_tests, low)

act_few : (s n p k : ℕ) (m : Message) (item : Item) (D : List Deed) → act_refusal s n p item (history_of s n D) ≡ None → messages (work s n D) ≤ 65536 → messages (after_message m item (work s n D)) ≤ 65536
unfolding act_refusal after_message
act_few s n p k m (items.Call call target method value) D none few =
    let room = room_for s n (items.Call call target method value) D none in
    let ready = ready_one m (work s n D) in
    let waits = wait_one m (work s n D) in
    elim (is_none_of m.copies) as (λ b. messages (if b then make_ready m (work s n D) else wait m (work s n D)) ≤ 65536) [ true ↦ omega (arith, room, ready) | false ↦ omega (arith, room, waits) ]
act_few s n p k m (items.Reply call status value) D none few =
    let room = room_for s n (items.Reply call status value) D none in
    let ready = reply_one m (work s n D) in
    let waits = wait_one m (work s n D) in
    elim (is_none_of m.copies) as (λ b. messages (with_calls (call_after_reply m.from call) (if b then make_reply m (work s n D) else wait m (work s n D))) ≤ 65536) [ true ↦ omega (arith, room, ready) | false ↦ omega (arith, room, waits) ]
act_few s n p k m (items.Settle item) D none few = few
act_few s n p k m (items.Dirty index) D none few = few
act_few s n p k m (items.DirtyOk index) D none few = few
act_few s n p k m (items.DirtyNo index) D none few = few
act_few s n p k m (items.Clean index) D none few = few

-- the item that was acted on, which nothing kept
acted_free : (s n : ℕ) (limits : Limits) (p k : ℕ) (D : List Deed) → AreRightDeeds s n limits (Act p k ∷ D) → (item : Item) × (item_at p k D ≡ Some item) × (act_refusal s n p item (history_of s n D) ≡ None)
unfolding right_after
acted_free s n limits p k D right =
    let told = (act_tells s n p k (history_of s n D) (was_answered s n limits (Act p k) D right.0)).2 in
    (told.1, front_item s n p D (in_turn s n limits D right.1) k told.0 told.1 told.2 told.3, told.5)

settled_few : (m : Message) (item : Item) (lost : Bool) (W : Outstanding) → messages W + 1 ≤ 65536 → messages (after_settlement m item lost W) ≤ 65536
unfolding after_settlement
settled_few m (items.Call call target method value) true W few = omega (arith, few)
settled_few m (items.Call call target method value) false W few = let more = ready_one m W in omega (arith, few, more)
settled_few m (items.Reply call status value) true W few = let more = reply_one (lost_reply m call) W in omega (arith, few, more)
settled_few m (items.Reply call status value) false W few = let more = reply_one m W in omega (arith, few, more)
settled_few m (items.Settle item) lost W few = omega (arith, few)
settled_few m (items.Dirty index) lost W few = omega (arith, few)
settled_few m (items.DirtyOk index) lost W few = omega (arith, few)
settled_few m (items.DirtyNo index) lost W few = omega (arith, few)
settled_few m (items.Clean index) lost W few = omega (arith, few)

settle_few : (s n p k : ℕ) (D : List Deed) (found : Option Message) (W : Outstanding) → find (is_of p k) W.waiting ≡ found → messages W ≤ 65536 → messages (after_settle s n p k D found W) ≤ 65536
unfolding after_settle
settle_few s n p k D None W is few = few
settle_few s n p k D (Some m) W is few = settled_few m m.item (is_lost_message s n D m) (without_waiting p k W) (let less = one_fewer (is_of p k) W.waiting m is in omega (arith, less, few))

claim_few : (job : Job) (found : Option Message) (W : Outstanding) → find (is_job job) W.ready ≡ found → messages W ≤ 65536 → messages (after_claim job found W) ≤ 65536
unfolding after_claim
claim_few job None W is few = few
claim_few job (Some m) W is few = let less = one_fewer (is_job job) W.ready m is in omega (arith, less, few)

deed_few : (s n : ℕ) (limits : Limits) (deed : Deed) (D : List Deed) → AreRightDeeds s n limits (deed ∷ D) → messages (work s n D) ≤ 65536 → messages (work_after s n deed D (work s n D)) ≤ 65536
unfolding work_after after_call after_take after_end after_finish after_close after_act
deed_few s n limits (Act p k) D right few =
    let acted = acted_free s n limits p k D right in
    subst (λ found. messages (after_act s n p k D found (work s n D)) ≤ 65536) (sym acted.1) (act_few s n p k (new_message s n p k acted.0 (Act p k ∷ D)) acted.0 D acted.2 few)
deed_few s n limits (Settle p k) D right few = settle_few s n p k D (find (is_of p k) (work s n D).waiting) (work s n D) refl few
deed_few s n limits (Claim job) D right few = claim_few job (find (is_job job) (work s n D).ready) (work s n D) refl few
deed_few s n limits (TakeReply call status value) D right few =
    let waiting = filter_short (is_not_reply call) (work s n D).waiting in
    let replies = filter_short (is_not_reply call) (work s n D).replies in
    omega (arith, waiting, replies, few)
deed_few s n limits (Finish job outcome) D right few = let running = filter_short (λ (run : Run). not (is_run job run)) (work s n D).running in omega (arith, running, few)
deed_few s n limits (DropReply job) D right few = let running = filter_short (λ (run : Run). not (is_run job run)) (work s n D).running in omega (arith, running, few)
deed_few s n limits (Closing p reason cause) D right few =
    let waiting = filter_short (is_not_from p) (work s n D).waiting in
    let ready = filter_short (is_not_from p) (work s n D).ready in
    omega (arith, waiting, ready, few)
deed_few s n limits (deed) D right few = few

-- there are so many messages and no more
pub few_messages : (s n : ℕ) (limits : Limits) (D : List Deed) → AreRightDeeds s n limits D → messages (work s n D) ≤ 65536
few_messages s n limits [] right = omega arith
few_messages s n limits (deed ∷ D) right =
    let same = loans_as_many s n (deed ∷ D) (work_after s n deed D (work s n D)) in
    let few = deed_few s n limits deed D right (few_messages s n limits D right.1) in
    omega (arith, same, few)
