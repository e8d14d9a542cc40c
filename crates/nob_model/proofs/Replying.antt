-- On lists of right deeds a call has one Reply at most outstanding, and none before it is answered.
use Rattle.std.proofs.Common.{◌≡◌, ℕ, ◌+◌, ◌≤◌, ◌<◌, Bool, true, false, not, ◌&&◌, ◌||◌, cond, List, [], ◌∷◌, ◌++◌, length, map, filter, find, Option, Some, None, if◌then◌else◌, refl, sym, ap, subst, ◌∙◌, arith}
use Rattle.std.specs.Prelude.{⊤, ◌==◌}
use Rattle.std.specs.List.{AllByRecursion, list_any}
use Rattle.std.proofs.lemmas.Bool.{and_parts, eqb-true, ne_eqb}
use Rattle.nob_ids.specs.declared.limits.Limits.{Limits}
use Rattle.nob_ids.specs.declared.reason.Reason.{Reason}
use Rattle.nob_ids.specs.declared.reason.Reason.TheVariants.{OutOfPlace}
use Rattle.nob_ids.specs.declared.wire_rep.WireRep.{WireRep}
use Rattle.nob_pickle.specs.declared.value.Value.{Value}
use Rattle.nob_item.specs.declared.item.Item.{Item}
use Rattle.nob_item.specs.declared.item.Item.TheVariants as items
use Rattle.nob_model_types.specs.declared.answer.Job.{Job}
use Rattle.nob_model_types.specs.declared.deed.Deed.{Deed}
use Rattle.nob_model_types.specs.declared.deed.Deed.TheVariants.{Call, TakeReply, TakeEnd, Claim, Finish, DropReply, Act, Settle, Closing}
use Rattle.nob_model_types.specs.declared.message.Message.{Message}
use Rattle.nob_model_types.specs.Sessions.{item_at}
use Rattle.nob_model_types.specs.Messages.{new_message, message_after, is_of, is_not_from, replies_to, is_job, is_lost_message}
use Rattle.nob_model_work.specs.declared.work.Outstanding.{Outstanding}
use Rattle.nob_model_work.specs.declared.work.OwnCall.{OwnCall}
use Rattle.nob_model_work.specs.declared.work.Stage.{Stage}
use Rattle.nob_model_work.specs.declared.work.Stage.TheVariants as stages
use Rattle.nob_model_work.specs.Work.{wait, make_ready, make_reply, with_calls, call_after_reply, call_after_close, stage_after_reply, is_reply_from, work, work_after, with_loans, without_first, is_none_of, lost_reply, is_call, is_not_reply, after_message, after_act, after_settlement, after_settle, after_claim, after_finish, after_take, after_end, after_call, after_close, without_waiting}
use Rattle.nob_model_history.specs.Histories.{history_of}
use Rattle.nob_model_acting.specs.Acting.{is_sent, awaits_reply, fault_of, fault_if, first_fault}
use Rattle.nob_model.specs.Right.{calls_made, right_after}
use Rattle.nob_model.specs.Lists.{IsRightDeed, AreRightDeeds}
use Rattle.nob_model.proofs.Accepted.{call_tells}
use Rattle.nob_model.proofs.Doing.{was_answered}
use Rattle.nob_model.proofs.Premises.{in_turn, item_acted}

-- whether a message is a Reply to call k
abbrev pub is_reply : ℕ → Message → Bool
is_reply k message = replies_to k message.item

-- how many Replies to call k are outstanding
abbrev pub replies_in : ℕ → Outstanding → ℕ
replies_in k W = length (filter (is_reply k) W.waiting) + length (filter (is_reply k) W.replies)

-- whether call k is made and not answered
abbrev pub is_asked : ℕ → Outstanding → Bool
is_asked k W = list_any (λ own. is_call k own && is_sent own.stage) W.calls

-- no two calls have one number
abbrev pub AreOneEach : List OwnCall → Type 0
AreOneEach [] = ⊤
AreOneEach (own ∷ calls) = AllByRecursion (λ (other : OwnCall). (other.call == own.call) ≡ false) calls × AreOneEach calls

-- so many calls were made: those outstanding have other numbers each, up to that; each has one Reply at most, none while it isn't answered, and a call to come has none
pub record AreAnsweredOnce (made : ℕ) (W : Outstanding) : Type 0 where
  pub made_before : AllByRecursion (λ (own : OwnCall). own.call ≤ made) W.calls
  pub each : AreOneEach W.calls
  pub once : (k : ℕ) → replies_in k W ≤ 1
  pub later : (k : ℕ) → is_asked k W ≡ true → replies_in k W ≡ 0
  pub to_come : (k : ℕ) → made < k → replies_in k W ≡ 0

-- ---- counts

-- 1 for a Reply to the call, else 0
abbrev one_of : ℕ → Item → ℕ
one_of k item = if replies_to k item then 1 else 0

abbrev one_if : ℕ → Message → ℕ
one_if k m = one_of k m.item

-- 1 for the same call, else 0
abbrev one_call : (call k : ℕ) → ℕ
one_call call k = if call == k then 1 else 0

-- a list with one at its head that passes a test or doesn't
count_first : (k : ℕ) (m : Message) (ms : List Message) → length (filter (is_reply k) (m ∷ ms)) ≡ (if is_reply k m then 1 else 0) + length (filter (is_reply k) ms)
count_first k m ms = elim (is_reply k m) as (λ b. length (cond b (m ∷ filter (is_reply k) ms) (filter (is_reply k) ms)) ≡ (if b then 1 else 0) + length (filter (is_reply k) ms)) [ true ↦ omega arith | false ↦ omega arith ]

count_filter : (k : ℕ) (test : Message → Bool) (ms : List Message) → length (filter (is_reply k) (filter test ms)) ≤ length (filter (is_reply k) ms)
count_filter k test [] = omega arith
count_filter k test (m ∷ ms) =
    let rest : length (filter (is_reply k) (filter test ms)) ≤ length (filter (is_reply k) ms) = count_filter k test ms in
    let all : length (filter (is_reply k) (m ∷ ms)) ≡ (if is_reply k m then 1 else 0) + length (filter (is_reply k) ms) = count_first k m ms in
    let kept : length (filter (is_reply k) (m ∷ filter test ms)) ≡ (if is_reply k m then 1 else 0) + length (filter (is_reply k) (filter test ms)) = count_first k m (filter test ms) in
    elim (test m) as (λ b. length (filter (is_reply k) (cond b (m ∷ filter test ms) (filter test ms))) ≤ length (filter (is_reply k) (m ∷ ms))) [ true ↦ omega (arith, rest, all, kept) | false ↦ omega (arith, rest, all) ]

count_push : (k : ℕ) (ms : List Message) (m : Message) → length (filter (is_reply k) (ms ++ m ∷ [])) ≡ length (filter (is_reply k) ms) + (if is_reply k m then 1 else 0)
count_push k [] m =
    let one : length (filter (is_reply k) (m ∷ [])) ≡ (if is_reply k m then 1 else 0) + 0 = count_first k m [] in
    omega (arith, one)
count_push k (o ∷ ms) m =
    let rest : length (filter (is_reply k) (ms ++ m ∷ [])) ≡ length (filter (is_reply k) ms) + (if is_reply k m then 1 else 0) = count_push k ms m in
    let all : length (filter (is_reply k) (o ∷ ms ++ m ∷ [])) ≡ (if is_reply k o then 1 else 0) + length (filter (is_reply k) (ms ++ m ∷ [])) = count_first k o (ms ++ m ∷ []) in
    let before : length (filter (is_reply k) (o ∷ ms)) ≡ (if is_reply k o then 1 else 0) + length (filter (is_reply k) ms) = count_first k o ms in
    omega (arith, rest, all, before)

nothing : {A : Type 0} (m : A) → None ≡ Some m → ⊥
nothing m e = cc

-- without the first that passes a test, one fewer if that is a Reply to the call
pub count_without : (k : ℕ) (test : Message → Bool) (ms : List Message) (m : Message) → find test ms ≡ Some m → length (filter (is_reply k) ms) ≡ length (filter (is_reply k) (without_first test ms)) + (if is_reply k m then 1 else 0)
count_without k test [] m found = absurd (nothing m found)
count_without k test (o ∷ ms) m found = elim (test o) as (λ b. cond b (Some o) (find test ms) ≡ Some m → length (filter (is_reply k) (o ∷ ms)) ≡ length (filter (is_reply k) (if b then ms else o ∷ without_first test ms)) + (if is_reply k m then 1 else 0)) [
  | true ↦ λ here.
      let is : o ≡ m = cc in
      let all : length (filter (is_reply k) (o ∷ ms)) ≡ (if is_reply k o then 1 else 0) + length (filter (is_reply k) ms) = count_first k o ms in
      let same : one_if k o ≡ one_if k m = ap (one_if k) is in
      omega (arith, all, same)
  | false ↦ λ there.
      let rest : length (filter (is_reply k) ms) ≡ length (filter (is_reply k) (without_first test ms)) + (if is_reply k m then 1 else 0) = count_without k test ms m there in
      let all : length (filter (is_reply k) (o ∷ ms)) ≡ (if is_reply k o then 1 else 0) + length (filter (is_reply k) ms) = count_first k o ms in
      let left : length (filter (is_reply k) (o ∷ without_first test ms)) ≡ (if is_reply k o then 1 else 0) + length (filter (is_reply k) (without_first test ms)) = count_first k o (without_first test ms) in
      omega (arith, rest, all, left)
] found

count_kept : (s n k : ℕ) (D : List Deed) (ms : List Message) → length (filter (is_reply k) (map (λ m. message_after s n D m) ms)) ≡ length (filter (is_reply k) ms)
unfolding message_after
count_kept s n k D [] = refl
count_kept s n k D (m ∷ ms) =
    let rest : length (filter (is_reply k) (map (λ m. message_after s n D m) ms)) ≡ length (filter (is_reply k) ms) = count_kept s n k D ms in
    let all : length (filter (is_reply k) (m ∷ ms)) ≡ (if is_reply k m then 1 else 0) + length (filter (is_reply k) ms) = count_first k m ms in
    let after : length (filter (is_reply k) (message_after s n D m ∷ map (λ m. message_after s n D m) ms)) ≡ (if is_reply k m then 1 else 0) + length (filter (is_reply k) (map (λ m. message_after s n D m) ms)) = count_first k (message_after s n D m) (map (λ m. message_after s n D m) ms) in
    omega (arith, rest, all, after)

-- ---- calls

-- changes that keep numbers
mapped_before : (made : ℕ) (change : OwnCall → OwnCall) → ((own : OwnCall) → (change own).call ≡ own.call) → (calls : List OwnCall) → AllByRecursion (λ (own : OwnCall). own.call ≤ made) calls → AllByRecursion (λ (own : OwnCall). own.call ≤ made) (map change calls)
mapped_before made change same [] all = tt
mapped_before made change same (own ∷ calls) all = (subst (λ k. k ≤ made) (sym (same own)) all.0, mapped_before made change same calls all.1)

mapped_apart : (k : ℕ) (change : OwnCall → OwnCall) → ((own : OwnCall) → (change own).call ≡ own.call) → (calls : List OwnCall) → AllByRecursion (λ (other : OwnCall). (other.call == k) ≡ false) calls → AllByRecursion (λ (other : OwnCall). (other.call == k) ≡ false) (map change calls)
mapped_apart k change same [] all = tt
mapped_apart k change same (own ∷ calls) all = (subst (λ j. (j == k) ≡ false) (sym (same own)) all.0, mapped_apart k change same calls all.1)

mapped_each : (change : OwnCall → OwnCall) → ((own : OwnCall) → (change own).call ≡ own.call) → (calls : List OwnCall) → AreOneEach calls → AreOneEach (map change calls)
mapped_each change same [] each = tt
mapped_each change same (own ∷ calls) each = (subst (λ k. AllByRecursion (λ (other : OwnCall). (other.call == k) ≡ false) (map change calls)) (sym (same own)) (mapped_apart own.call change same calls each.0), mapped_each change same calls each.1)

all_kept : (P : OwnCall → Type 0) (test : OwnCall → Bool) (calls : List OwnCall) → AllByRecursion P calls → AllByRecursion P (filter test calls)
all_kept P test [] all = tt
all_kept P test (own ∷ calls) all = elim (test own) as (λ b. AllByRecursion P (cond b (own ∷ filter test calls) (filter test calls))) [ true ↦ (all.0, all_kept P test calls all.1) | false ↦ all_kept P test calls all.1 ]

filtered_each : (test : OwnCall → Bool) (calls : List OwnCall) → AreOneEach calls → AreOneEach (filter test calls)
filtered_each test [] each = tt
filtered_each test (own ∷ calls) each = elim (test own) as (λ b. AreOneEach (cond b (own ∷ filter test calls) (filter test calls))) [
  | true ↦ (all_kept (λ (other : OwnCall). (other.call == own.call) ≡ false) test calls each.0, filtered_each test calls each.1)
  | false ↦ filtered_each test calls each.1
]

-- one call more, of a greater number
pushed_before : (made : ℕ) (calls : List OwnCall) (own : OwnCall) → own.call ≡ made + 1 → AllByRecursion (λ (other : OwnCall). other.call ≤ made) calls → AllByRecursion (λ (other : OwnCall). other.call ≤ made + 1) (calls ++ own ∷ [])
pushed_before made [] own is all = (omega (arith, is), tt)
pushed_before made (other ∷ calls) own is all = ((let low : other.call ≤ made = all.0 in omega (arith, low)), pushed_before made calls own is all.1)

pushed_apart : (k : ℕ) (calls : List OwnCall) (own : OwnCall) → (own.call == k) ≡ false → AllByRecursion (λ (other : OwnCall). (other.call == k) ≡ false) calls → AllByRecursion (λ (other : OwnCall). (other.call == k) ≡ false) (calls ++ own ∷ [])
pushed_apart k [] own apart all = (apart, tt)
pushed_apart k (other ∷ calls) own apart all = (all.0, pushed_apart k calls own apart all.1)

pushed_each : (made : ℕ) (calls : List OwnCall) (own : OwnCall) → own.call ≡ made + 1 → AllByRecursion (λ (other : OwnCall). other.call ≤ made) calls → AreOneEach calls → AreOneEach (calls ++ own ∷ [])
pushed_each made [] own is all each = (tt, tt)
pushed_each made (other ∷ calls) own is all each =
    (pushed_apart other.call calls own (let low : other.call ≤ made = all.0 in ne_eqb own.call other.call (λ e. omega (arith, e, low, is))) each.0, pushed_each made calls own is all.1 each.1)

-- ---- what is asked

-- whether one of these calls is call k and not answered
abbrev any_asked : ℕ → List OwnCall → Bool
any_asked k calls = list_any (λ (own : OwnCall). is_call k own && is_sent own.stage) calls

either : (a b c d : Bool) → (a ≡ true → c ≡ true) → (b ≡ true → d ≡ true) → (a || b) ≡ true → (c || d) ≡ true
either true b c d f g e = (let first : c ≡ true = f refl in subst (λ x. (x || d) ≡ true) (sym first) refl)
either false b true d f g e = refl
either false b false d f g e = g e

both_still : (a b c : Bool) → (b ≡ true → c ≡ true) → (a && b) ≡ true → (a && c) ≡ true
both_still true b c f e = f e
both_still false b c f e = e

-- a change that keeps numbers and asks for no more
mapped_asks : (k : ℕ) (change : OwnCall → OwnCall) → ((own : OwnCall) → (change own).call ≡ own.call) → ((own : OwnCall) → is_sent (change own).stage ≡ true → is_sent own.stage ≡ true) → (calls : List OwnCall) → any_asked k (map change calls) ≡ true → any_asked k calls ≡ true
mapped_asks k change same sent [] asks = asks
mapped_asks k change same sent (own ∷ calls) asks =
    either _ _ _ _ (λ here. both_still (own.call == k) (is_sent (change own).stage) (is_sent own.stage) (sent own) (subst (λ j. ((j == k) && is_sent (change own).stage) ≡ true) (same own) here)) (mapped_asks k change same sent calls) asks

differ : {b : Bool} → b ≡ true → b ≡ false → ⊥
differ is isnt = (let clash : true ≡ false = sym is ∙ isnt in absurd (cc))

-- one call more that isn't asked for by this number
pushed_asks : (k : ℕ) (calls : List OwnCall) (own : OwnCall) → ((is_call k own && is_sent own.stage) ≡ true → ⊥) → any_asked k (calls ++ own ∷ []) ≡ true → any_asked k calls ≡ true
pushed_asks k [] own none asks = elim (is_call k own && is_sent own.stage) as (λ b. (b ≡ true → ⊥) → (b || false) ≡ true → false ≡ true) [ true ↦ λ no e. absurd (no refl) | false ↦ λ no e. e ] none asks
pushed_asks k (other ∷ calls) own none asks = either _ _ _ _ (λ here. here) (pushed_asks k calls own none) asks

or_second : (a b : Bool) → b ≡ true → (a || b) ≡ true
or_second true b e = refl
or_second false b e = e

filtered_asks : (k : ℕ) (test : OwnCall → Bool) (calls : List OwnCall) → any_asked k (filter test calls) ≡ true → any_asked k calls ≡ true
filtered_asks k test [] asks = asks
filtered_asks k test (own ∷ calls) asks = elim (test own) as (λ b. any_asked k (cond b (own ∷ filter test calls) (filter test calls)) ≡ true → any_asked k (own ∷ calls) ≡ true) [
  | true ↦ λ e. either _ _ _ _ (λ here. here) (filtered_asks k test calls) e
  | false ↦ λ e. or_second _ _ (filtered_asks k test calls e)
] asks

-- ---- no more

-- one has no more Replies than another, and asks for no more
record IsNoMore (W less : Outstanding) : Type 0 where
  fewer : (k : ℕ) → replies_in k less ≤ replies_in k W
  asks : (k : ℕ) → is_asked k less ≡ true → is_asked k W ≡ true

no_more : (made : ℕ) (W less : Outstanding) → IsNoMore W less → AllByRecursion (λ (own : OwnCall). own.call ≤ made) less.calls → AreOneEach less.calls → AreAnsweredOnce made W → AreAnsweredOnce made less
no_more made W less fewest before each all = record {
  made_before = before;
  each = each;
  once = λ k. let low : replies_in k less ≤ replies_in k W = fewest.fewer k in let one : replies_in k W ≤ 1 = all.once k in omega (arith, low, one);
  later = λ k asks. let low : replies_in k less ≤ replies_in k W = fewest.fewer k in let none : replies_in k W ≡ 0 = all.later k (fewest.asks k asks) in omega (arith, low, none);
  to_come = λ k over. let low : replies_in k less ≤ replies_in k W = fewest.fewer k in let none : replies_in k W ≡ 0 = all.to_come k over in omega (arith, low, none);
}

-- the same calls, and no more Replies
same_calls : (made : ℕ) (W less : Outstanding) → less.calls ≡ W.calls → ((k : ℕ) → replies_in k less ≤ replies_in k W) → AreAnsweredOnce made W → AreAnsweredOnce made less
same_calls made W less same fewer all = no_more made W less record { fewer = fewer; asks = λ k asks. subst (λ calls. any_asked k calls ≡ true) same asks }
    (subst (λ calls. AllByRecursion (λ (own : OwnCall). own.call ≤ made) calls) (sym same) all.made_before) (subst AreOneEach (sym same) all.each) all

-- loans change no Reply
pub loans_answered : (s n made : ℕ) (D : List Deed) (W : Outstanding) → AreAnsweredOnce made W → AreAnsweredOnce made (with_loans s n D W)
unfolding with_loans
loans_answered s n made D W all = same_calls made W (with_loans s n D W) refl (λ k.
    let waiting : length (filter (is_reply k) (map (λ m. message_after s n D m) W.waiting)) ≡ length (filter (is_reply k) W.waiting) = count_kept s n k D W.waiting in
    let replies : length (filter (is_reply k) (map (λ m. message_after s n D m) W.replies)) ≡ length (filter (is_reply k) W.replies) = count_kept s n k D W.replies in
    omega (arith, waiting, replies)) all

-- ---- one deed more

-- a message that was settled is as it was, or the Reply that stands for it
settled_answered : (made p k : ℕ) (m : Message) (item : Item) (is_lost : Bool) (W : Outstanding) → m.item ≡ item → find (is_of p k) W.waiting ≡ Some m → AreAnsweredOnce made W → AreAnsweredOnce made (after_settlement m item is_lost (without_waiting p k W))
unfolding after_settlement
settled_answered made p k m (items.Reply call status value) true W is found all = same_calls made W _ refl (λ j.
    let waiting : length (filter (is_reply j) W.waiting) ≡ length (filter (is_reply j) (without_first (is_of p k) W.waiting)) + (if is_reply j m then 1 else 0) = count_without j (is_of p k) W.waiting m found in
    let replies : length (filter (is_reply j) (W.replies ++ lost_reply m call ∷ [])) ≡ length (filter (is_reply j) W.replies) + (if call == j then 1 else 0) = count_push j W.replies (lost_reply m call) in
    let same : one_if j m ≡ one_call call j = ap (one_of j) is in
    omega (arith, waiting, replies, same)) all
settled_answered made p k m (items.Reply call status value) false W is found all = same_calls made W _ refl (λ j.
    let waiting : length (filter (is_reply j) W.waiting) ≡ length (filter (is_reply j) (without_first (is_of p k) W.waiting)) + (if is_reply j m then 1 else 0) = count_without j (is_of p k) W.waiting m found in
    let replies : length (filter (is_reply j) (W.replies ++ m ∷ [])) ≡ length (filter (is_reply j) W.replies) + (if is_reply j m then 1 else 0) = count_push j W.replies m in
    omega (arith, waiting, replies)) all
settled_answered made p k m (items.Call call target method value) true W is found all = same_calls made W _ refl (λ j. let waiting = count_without j (is_of p k) W.waiting m found in omega (arith, waiting)) all
settled_answered made p k m (items.Call call target method value) false W is found all = same_calls made W _ refl (λ j. let waiting = count_without j (is_of p k) W.waiting m found in omega (arith, waiting)) all
settled_answered made p k m (_) is_lost W is found all = same_calls made W _ refl (λ j. let waiting = count_without j (is_of p k) W.waiting m found in omega (arith, waiting)) all

settle_answered : (s n made p k : ℕ) (D : List Deed) (found : Option Message) (W : Outstanding) → find (is_of p k) W.waiting ≡ found → AreAnsweredOnce made W → AreAnsweredOnce made (after_settle s n p k D found W)
unfolding after_settle
settle_answered s n made p k D None W is all = all
settle_answered s n made p k D (Some m) W is all = settled_answered made p k m m.item (is_lost_message s n D m) W refl is all

claim_answered : (made : ℕ) (job : Job) (found : Option Message) (W : Outstanding) → AreAnsweredOnce made W → AreAnsweredOnce made (after_claim job found W)
unfolding after_claim
claim_answered made job None W all = all
claim_answered made job (Some m) W all = same_calls made W _ refl (λ k. omega arith) all

-- a call that is made has a number of its own
call_answered : (made p : ℕ) (W : Outstanding) → AreAnsweredOnce made W → AreAnsweredOnce (made + 1) (after_call p (made + 1) W)
unfolding after_call
call_answered made p W all =
    let own : OwnCall = record { call = made + 1; to = p; stage = stages.Sent } in
    record {
      made_before = pushed_before made W.calls own refl all.made_before;
      each = pushed_each made W.calls own refl all.made_before all.each;
      once = all.once;
      later = λ k asks. elim (made + 1 == k) as (λ b. (made + 1 == k) ≡ b → replies_in k W ≡ 0) [
        | true ↦ λ new. all.to_come k (let same : made + 1 ≡ k = eqb-true (made + 1) k new in omega (arith, same))
        | false ↦ λ old. all.later k (pushed_asks k W.calls own (λ here. absurd (differ (and_parts (made + 1 == k) true here).0 old)) asks)
      ] refl;
      to_come = λ k over. all.to_come k (omega (arith, over));
    }

-- ---- a Reply

-- none of these calls has a number
no_number_asked : (k : ℕ) (calls : List OwnCall) → AllByRecursion (λ (other : OwnCall). (other.call == k) ≡ false) calls → any_asked k calls ≡ false
no_number_asked k [] all = refl
no_number_asked k (own ∷ calls) all = (let no : (own.call == k) ≡ false = all.0 in rw no (no_number_asked k calls all.1))

no_number_awaits : (p k : ℕ) (calls : List OwnCall) → AllByRecursion (λ (other : OwnCall). (other.call == k) ≡ false) calls → list_any (awaits_reply p k) calls ≡ false
no_number_awaits p k [] all = refl
no_number_awaits p k (own ∷ calls) all = (let no : (own.call == k) ≡ false = all.0 in rw no (no_number_awaits p k calls all.1))

without_middle : (a b c : Bool) → (a && b && c) ≡ true → (a && c) ≡ true
without_middle true true c e = e
without_middle true false c e = (let clash : false ≡ true = e in absurd (cc))
without_middle false b c e = e

-- a call that awaits its reply is asked for
awaits_asked : (p k : ℕ) (calls : List OwnCall) → list_any (awaits_reply p k) calls ≡ true → any_asked k calls ≡ true
awaits_asked p k [] awaits = awaits
awaits_asked p k (own ∷ calls) awaits = either _ _ _ _ (without_middle (own.call == k) (own.to == p) (is_sent own.stage)) (awaits_asked p k calls) awaits

-- what is asked for was made
asked_made : (made k : ℕ) (calls : List OwnCall) → AllByRecursion (λ (own : OwnCall). own.call ≤ made) calls → any_asked k calls ≡ true → k ≤ made
asked_made made k [] all asks = (let clash : false ≡ true = asks in absurd (cc))
asked_made made k (own ∷ calls) all asks = elim (is_call k own && is_sent own.stage) as (λ b. (is_call k own && is_sent own.stage) ≡ b → (b || any_asked k calls) ≡ true → k ≤ made) [
  | true ↦ λ here e. (let same : own.call ≡ k = eqb-true own.call k (and_parts (own.call == k) (is_sent own.stage) here).0 in let low : own.call ≤ made = all.0 in omega (arith, same, low))
  | false ↦ λ here e. asked_made made k calls all.1 e
] refl asks

-- an answered call isn't asked for
not_sent : (answered : Bool) (stage : Stage) → answered ≡ true → is_sent (stage_after_reply answered stage) ≡ false
not_sent true stages.Sent e = refl
not_sent false stages.Sent e = (let clash : false ≡ true = e in absurd (cc))
not_sent answered stages.Answered e = refl
not_sent answered stages.Ended e = refl

still_sent : (answered : Bool) (stage : Stage) → is_sent (stage_after_reply answered stage) ≡ true → is_sent stage ≡ true
still_sent answered stages.Sent e = refl
still_sent answered stages.Answered e = e
still_sent answered stages.Ended e = e

answered_none : (p k : ℕ) (calls : List OwnCall) → AreOneEach calls → list_any (awaits_reply p k) calls ≡ true → any_asked k (map (call_after_reply p k) calls) ≡ false
unfolding call_after_reply
answered_none p k [] each awaits = (let clash : false ≡ true = awaits in absurd (cc))
answered_none p k (own ∷ calls) each awaits = elim (own.call == k) as (λ b. (own.call == k) ≡ b → any_asked k (map (call_after_reply p k) (own ∷ calls)) ≡ false) [
  | true ↦ λ here.
      let same : own.call ≡ k = eqb-true own.call k here in
      let others : AllByRecursion (λ (other : OwnCall). (other.call == k) ≡ false) calls = subst (λ j. AllByRecursion (λ (other : OwnCall). (other.call == j) ≡ false) calls) same each.0 in
      let no_other : list_any (awaits_reply p k) calls ≡ false = no_number_awaits p k calls others in
      let its : awaits_reply p k own ≡ true = or_left_only (awaits_reply p k own) (list_any (awaits_reply p k) calls) no_other awaits in
      let to : (own.to == p) ≡ true = (and_parts (own.call == k) (own.to == p) (and_parts (own.call == k && own.to == p) (is_sent own.stage) its).0).1 in
      let ended : is_sent (stage_after_reply ((own.to == p) && (own.call == k)) own.stage) ≡ false = not_sent ((own.to == p) && (own.call == k)) own.stage (rw (to, here) refl) in
      or_none _ _ (and_no (own.call == k) _ ended) (no_number_asked k (map (call_after_reply p k) calls) (mapped_apart k (call_after_reply p k) (λ other. refl) calls others))
  | false ↦ λ other.
      let rest : list_any (awaits_reply p k) calls ≡ true = or_right_only (awaits_reply p k own) (list_any (awaits_reply p k) calls) (no_first (own.call == k) (own.to == p) (is_sent own.stage) other) awaits in
      or_none _ _ (no_and (own.call == k) _ other) (answered_none p k calls each.1 rest)
] refl
  where
    or_left_only : (a b : Bool) → b ≡ false → (a || b) ≡ true → a ≡ true
    or_left_only true b none e = refl
    or_left_only false b none e = absurd (differ e none)

    or_right_only : (a b : Bool) → a ≡ false → (a || b) ≡ true → b ≡ true
    or_right_only true b none e = absurd (differ refl none)
    or_right_only false b none e = e

    or_none : (a b : Bool) → a ≡ false → b ≡ false → (a || b) ≡ false
    or_none true b e f = e
    or_none false b e f = f

    and_no : (a b : Bool) → b ≡ false → (a && b) ≡ false
    and_no true b e = e
    and_no false b e = refl

    no_first : (a b c : Bool) → a ≡ false → (a && b && c) ≡ false
    no_first true b c e = absurd (differ refl e)
    no_first false b c e = refl

    no_and : (a b : Bool) → a ≡ false → (a && b) ≡ false
    no_and true b e = absurd (differ refl e)
    no_and false b e = refl

-- the Reply to a call that awaits it
reply_answered : (made p : ℕ) (m : Message) (call status : ℕ) (value : Value) (W : Outstanding) → m.item ≡ items.Reply call status value → list_any (awaits_reply p call) W.calls ≡ true → AreAnsweredOnce made W
    → (more : Outstanding) → more.calls ≡ W.calls → ((k : ℕ) → replies_in k more ≡ replies_in k W + (if call == k then 1 else 0)) → AreAnsweredOnce made (with_calls (call_after_reply p call) more)
unfolding call_after_reply
reply_answered made p m call status value W is awaits all more calls counts =
    let before : AllByRecursion (λ (own : OwnCall). own.call ≤ made) more.calls = subst (λ cs. AllByRecursion (λ (own : OwnCall). own.call ≤ made) cs) (sym calls) all.made_before in
    let each : AreOneEach more.calls = subst AreOneEach (sym calls) all.each in
    let waits : list_any (awaits_reply p call) more.calls ≡ true = subst (λ cs. list_any (awaits_reply p call) cs ≡ true) (sym calls) awaits in
    let none : replies_in call W ≡ 0 = all.later call (awaits_asked p call W.calls awaits) in
    let low : call ≤ made = asked_made made call W.calls all.made_before (awaits_asked p call W.calls awaits) in
    record {
      made_before = mapped_before made (call_after_reply p call) (λ own. refl) more.calls before;
      each = mapped_each (call_after_reply p call) (λ own. refl) more.calls each;
      once = λ k. elim (call == k) as (λ b. (call == k) ≡ b → replies_in k more ≡ replies_in k W + (if b then 1 else 0) → replies_in k more ≤ 1) [
        | true ↦ λ same e. (let mine : replies_in k W ≡ 0 = subst (λ j. replies_in j W ≡ 0) (eqb-true call k same) none in omega (arith, e, mine))
        | false ↦ λ other e. (let one : replies_in k W ≤ 1 = all.once k in omega (arith, e, one))
      ] refl (counts k);
      later = λ k asks. elim (call == k) as (λ b. (call == k) ≡ b → replies_in k more ≡ replies_in k W + (if b then 1 else 0) → replies_in k more ≡ 0) [
        | true ↦ λ same e. absurd (differ (subst (λ j. any_asked j (map (call_after_reply p call) more.calls) ≡ true) (sym (eqb-true call k same)) asks) (answered_none p call more.calls each waits))
        | false ↦ λ other e.
            let asked : any_asked k more.calls ≡ true = mapped_asks k (call_after_reply p call) (λ own. refl) (λ own. still_sent ((own.to == p) && (own.call == call)) own.stage) more.calls asks in
            let mine : replies_in k W ≡ 0 = all.later k (subst (λ cs. any_asked k cs ≡ true) calls asked) in
            omega (arith, e, mine)
      ] refl (counts k);
      to_come = λ k over. elim (call == k) as (λ b. (call == k) ≡ b → replies_in k more ≡ replies_in k W + (if b then 1 else 0) → replies_in k more ≡ 0) [
        | true ↦ λ same e. (let one : call ≡ k = eqb-true call k same in omega (arith, one, low, over))
        | false ↦ λ other e. (let mine : replies_in k W ≡ 0 = all.to_come k over in omega (arith, e, mine))
      ] refl (counts k);
    }

-- a message that was acted on without a fault
message_answered : (s n made p : ℕ) (m : Message) (item : Item) (D : List Deed) (W : Outstanding) → W ≡ work s n D → m.from ≡ p → m.item ≡ item → fault_of s n p item (history_of s n D) ≡ None → AreAnsweredOnce made W → AreAnsweredOnce made (after_message m item W)
unfolding after_message fault_of
message_answered s n made p m (items.Call call target method value) D W w from is free all = elim (is_none_of m.copies) as (λ b. AreAnsweredOnce made (if b then make_ready m W else wait m W)) [
  | true ↦ same_calls made W (make_ready m W) refl (λ k. omega arith) all
  | false ↦ same_calls made W (wait m W) refl (λ k.
      let more : length (filter (is_reply k) (W.waiting ++ m ∷ [])) ≡ length (filter (is_reply k) W.waiting) + (if is_reply k m then 1 else 0) = count_push k W.waiting m in
      let none : one_if k m ≡ 0 = ap (one_of k) is in
      omega (arith, more, none)) all
]
message_answered s n made p m (items.Reply call status value) D W w from is free all =
    let awaits : list_any (awaits_reply p call) W.calls ≡ true = subst (λ (v : Outstanding). list_any (awaits_reply p call) v.calls ≡ true) (sym w) (awaited (list_any (awaits_reply p call) (work s n D).calls) _ free) in
    let one : (k : ℕ) → one_if k m ≡ one_call call k = λ k. ap (one_of k) is in
    subst (λ q. AreAnsweredOnce made (with_calls (call_after_reply q call) (if is_none_of m.copies then make_reply m W else wait m W))) (sym from)
    (elim (is_none_of m.copies) as (λ b. AreAnsweredOnce made (with_calls (call_after_reply p call) (if b then make_reply m W else wait m W))) [
      | true ↦ reply_answered made p m call status value W is awaits all (make_reply m W) refl (λ k.
          let more : length (filter (is_reply k) (W.replies ++ m ∷ [])) ≡ length (filter (is_reply k) W.replies) + (if is_reply k m then 1 else 0) = count_push k W.replies m in
          let which : one_if k m ≡ one_call call k = one k in
          omega (arith, more, which))
      | false ↦ reply_answered made p m call status value W is awaits all (wait m W) refl (λ k.
          let more : length (filter (is_reply k) (W.waiting ++ m ∷ [])) ≡ length (filter (is_reply k) W.waiting) + (if is_reply k m then 1 else 0) = count_push k W.waiting m in
          let which : one_if k m ≡ one_call call k = one k in
          omega (arith, more, which))
    ])
  where
    awaited : (b : Bool) (later : Option Reason) → first_fault (fault_if (not b) OutOfPlace) later ≡ None → b ≡ true
    awaited true later e = refl
    awaited false later e = (let clash : Some OutOfPlace ≡ None = e in absurd (cc))
message_answered s n made p m (_) D W w from is free all = all

act_answered : (s n made p k : ℕ) (D : List Deed) (found : Option Item) → ((item : Item) → found ≡ Some item → fault_of s n p item (history_of s n D) ≡ None) → AreAnsweredOnce made (work s n D) → AreAnsweredOnce made (after_act s n p k D found (work s n D))
unfolding after_act
act_answered s n made p k D None free all = all
act_answered s n made p k D (Some item) free all = message_answered s n made p (new_message s n p k item (Act p k ∷ D)) item D (work s n D) refl refl refl (free item refl) all

-- a closing
closing_answered : (made p : ℕ) (W : Outstanding) → AreAnsweredOnce made W → AreAnsweredOnce made (after_close p W)
unfolding after_close call_after_close
closing_answered made p W all = no_more made W (after_close p W) record {
  fewer = λ k. (let low : length (filter (is_reply k) (filter (is_not_from p) W.waiting)) ≤ length (filter (is_reply k) W.waiting) = count_filter k (is_not_from p) W.waiting in omega (arith, low));
  asks = λ k. mapped_asks k (call_after_close p W.replies) (λ own. refl) (λ own. ended (own.to == p && not (list_any (is_reply_from p own.call) W.replies)) own.stage) W.calls;
} (mapped_before made (call_after_close p W.replies) (λ own. refl) W.calls all.made_before) (mapped_each (call_after_close p W.replies) (λ own. refl) W.calls all.each) all
  where
    ended : (b : Bool) (stage : Stage) → is_sent (if b then stages.Ended else stage) ≡ true → is_sent stage ≡ true
    ended true stage e = (let clash : false ≡ true = e in absurd (cc))
    ended false stage e = e

-- the end of a call, and its reply that was taken
end_answered : (made k : ℕ) (W : Outstanding) → AreAnsweredOnce made W → AreAnsweredOnce made (after_end k W)
unfolding after_end
end_answered made k W all = no_more made W (after_end k W) record { fewer = λ j. omega arith; asks = λ j. filtered_asks j (λ own. not (is_call k own)) W.calls }
    (all_kept (λ (own : OwnCall). own.call ≤ made) (λ own. not (is_call k own)) W.calls all.made_before) (filtered_each (λ own. not (is_call k own)) W.calls all.each) all

take_answered : (made k : ℕ) (W : Outstanding) → AreAnsweredOnce made W → AreAnsweredOnce made (after_take k W)
unfolding after_take
take_answered made k W all = no_more made W (after_take k W) record {
  fewer = λ j.
      let waiting : length (filter (is_reply j) (filter (is_not_reply k) W.waiting)) ≤ length (filter (is_reply j) W.waiting) = count_filter j (is_not_reply k) W.waiting in
      let replies : length (filter (is_reply j) (filter (is_not_reply k) W.replies)) ≤ length (filter (is_reply j) W.replies) = count_filter j (is_not_reply k) W.replies in
      omega (arith, waiting, replies);
  asks = λ j. filtered_asks j (λ own. not (is_call k own)) W.calls;
} (all_kept (λ (own : OwnCall). own.call ≤ made) (λ own. not (is_call k own)) W.calls all.made_before) (filtered_each (λ own. not (is_call k own)) W.calls all.each) all

-- ---- a list of right deeds

some_same : {A : Type 0} (x y : A) → Some x ≡ Some y → x ≡ y
some_same x y e = cc

module _ (s n : ℕ) (limits : Limits) where
  -- a call that was made has the next number
  call_next : (target : WireRep) (value : Value) (method call : ℕ) (D : List Deed) → IsRightDeed s n limits (Call target method value call) D → call ≡ calls_made D + 1
  unfolding right_after
  call_next target value method call D right = (call_tells s n target value call (history_of s n D) (was_answered s n limits (Call target method value call) D right)).0

  deed_answered : (deed : Deed) (D : List Deed) → AreRightDeeds s n limits (deed ∷ D) → AreAnsweredOnce (calls_made D) (work s n D) → AreAnsweredOnce (calls_made (deed ∷ D)) (work_after s n deed D (work s n D))
  unfolding work_after after_finish
  deed_answered (Call target method value call) D right all =
      let number : call ≡ calls_made D + 1 = call_next target value method call D right.0 in
      subst (λ k. AreAnsweredOnce (calls_made D + 1) (after_call target.owner k (work s n D))) (sym number) (call_answered (calls_made D) target.owner (work s n D) all)
  deed_answered (TakeReply call status value) D right all = take_answered (calls_made D) call (work s n D) all
  deed_answered (TakeEnd call) D right all = end_answered (calls_made D) call (work s n D) all
  deed_answered (Claim job) D right all = claim_answered (calls_made D) job (find (is_job job) (work s n D).ready) (work s n D) all
  deed_answered (Finish job outcome) D right all = same_calls (calls_made D) (work s n D) _ refl (λ k. omega arith) all
  deed_answered (DropReply job) D right all = same_calls (calls_made D) (work s n D) _ refl (λ k. omega arith) all
  deed_answered (Act p k) D right all =
      let acted = item_acted s n limits p k D (in_turn s n limits D right.1) right.0 in
      act_answered s n (calls_made D) p k D (item_at p k D) (λ item is. subst (λ (i : Item). fault_of s n p i (history_of s n D) ≡ None) (some_same acted.0 item (sym acted.1 ∙ is)) acted.2) all
  deed_answered (Settle p k) D right all = settle_answered s n (calls_made D) p k D (find (is_of p k) (work s n D).waiting) (work s n D) refl all
  deed_answered (Closing p reason cause) D right all = closing_answered (calls_made D) p (work s n D) all
  deed_answered (deed) D right all = all

  -- each call has one Reply at most outstanding, and none while it isn't answered
  pub answered_once : (D : List Deed) → AreRightDeeds s n limits D → AreAnsweredOnce (calls_made D) (work s n D)
  answered_once [] right = record { made_before = tt; each = tt; once = λ k. omega arith; later = λ k asks. refl; to_come = λ k over. refl }
  answered_once (deed ∷ D) right = loans_answered s n (calls_made (deed ∷ D)) (deed ∷ D) (work_after s n deed D (work s n D)) (deed_answered deed D right (answered_once D right.1))
