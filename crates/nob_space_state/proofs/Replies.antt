-- TakeReply: what is right is what the state tells, and what it leaves stands for one deed more.
use Rattle.std.proofs.Common.{◌≡◌, ℕ, ◌+◌, ◌-◌, ◌≤◌, Bool, true, false, not, ◌||◌, nat_lt, cond, List, [], ◌∷◌, ◌++◌, find, filter, flat_map, length, Option, Some, None, Ok, Err, if◌then◌else◌, refl, sym, ap, subst, ◌∙◌, arith}
use Rattle.std.specs.Prelude.{Result}
use Rattle.nob_model_types.specs.declared.answer.Answer.{Answer}
use Rattle.nob_model_types.specs.declared.refusal.Refusal.{Refusal}
use Rattle.nob_model_work.specs.declared.work.Stage.{Stage}
use Rattle.nob_model_work.specs.declared.work.Stage.TheVariants as stages
use Rattle.std.specs.List.{AllByRecursion, list_any}
use Rattle.std.proofs.lemmas.Option.{none-some}
use Rattle.std.proofs.lemmas.Bool.{or_parts, eqb-true}
use Rattle.std.proofs.lemmas.Bool.Decides.{nat_tests}
use Rattle.nob_ids.specs.Names.{is_same, is_counted}
use Rattle.nob_ids.specs.declared.limits.Limits.{Limits}
use Rattle.nob_ids.specs.declared.wire_rep.WireRep.{WireRep}
use Rattle.nob_pickle.specs.Spelling.{refs_in}
use Rattle.nob_pickle.specs.declared.value.Value.{Value}
use Rattle.nob_item.specs.Kinds.{counted_in, refs_carried}
use Rattle.nob_item.specs.declared.item.Item.{Item}
use Rattle.nob_item.specs.declared.item.Item.TheVariants as items
use Rattle.nob_table.specs.Table.{Table, standing}
use Rattle.nob_table_rows.proofs.Same.{same_is}
use Rattle.nob_model_types.specs.declared.answer.Answer.TheVariants as answers
use Rattle.nob_model_types.specs.declared.refusal.Refusal.TheVariants as refusals
use Rattle.nob_model_types.specs.declared.deed.Deed.{Deed}
use Rattle.nob_model_types.specs.declared.deed.Deed.TheVariants.{TakeReply, TakeEnd}
use Rattle.nob_model_types.specs.declared.message.Loan.TheVariants as loans
use Rattle.nob_model_types.specs.declared.message.RefCopy.{RefCopy}
use Rattle.nob_model_types.specs.declared.message.Message.{Message}
use Rattle.nob_model_types.specs.Messages.{replies_to, message_after, copy_after}
use Rattle.nob_model_work.specs.declared.work.Outstanding.{Outstanding}
use Rattle.nob_model_work.specs.declared.work.OwnCall.{OwnCall}
use Rattle.nob_model_work.specs.Work.{work, work_after, with_loans, run_after, without_first, is_call, is_not_reply, after_take, after_end}
use Rattle.nob_model_work.specs.Gifts.{gifts, gifts_of}
use Rattle.nob_model_history.specs.Histories.{history_of}
use Rattle.nob_model_history.specs.Holds.{times, hand, gains, releases, is_lent, copies_lent, target_lent, loans_of, lent_in}
use Rattle.nob_model.specs.Lists.{IsRightDeed}
use Rattle.nob_model.specs.Right.{greatest_hand, is_handful, right_take_reply, take_of, answer_of_stage}
use Rattle.nob_model.specs.Right as right
use Rattle.nob_model.specs.Next.{is_not_ready, reply_ready}
use Rattle.nob_model_acting.specs.Sending.{refuse_if, unless}
use Rattle.nob_model.proofs.Carrying.{Carries, all_carry, all_found, all_without}
use Rattle.nob_model.proofs.Lending.{IsAllLent, all_lent}
use Rattle.nob_model.proofs.Made.{AreFixed, work_fixed, fixed_stays}
use Rattle.nob_model.proofs.Replying.{answered_once}
use Rattle.nob_space_state.specs.Parts.{State}
use Rattle.nob_space_state.specs.Shows.{TableShows}
use Rattle.nob_space_state.specs.Stands.{Stands}
use Rattle.nob_space_state.specs.TakingOver.{reps_of, CanTake, with_more, with_fewer}
use Rattle.nob_space_calls.specs.Calls.{is_reply}
use Rattle.nob_space_state.specs.Taking.{is_full, is_overfull, answer_of_item, answer_of_reply, answer_of_call, take_answer}
use Rattle.nob_space_state.proofs.Claiming.{times_lent}
use Rattle.nob_space_state.proofs.Firsts.{times_without}
use Rattle.nob_space_state.proofs.Orderly.{orderly}
use Rattle.nob_space_state.proofs.Counted.{times_both}
use Rattle.nob_space_state.proofs.Rows.{differ}

-- ---- counted references

all_counted : (reps : List WireRep) → AllByRecursion (λ (rep : WireRep). is_counted rep ≡ true) (filter is_counted reps)
all_counted [] = tt
all_counted (rep ∷ reps) = elim (is_counted rep) as (λ b. is_counted rep ≡ b → AllByRecursion (λ (rep : WireRep). is_counted rep ≡ true) (cond b (rep ∷ filter is_counted reps) (filter is_counted reps))) [ true ↦ λ counted. (counted, all_counted reps) | false ↦ λ agent. all_counted reps ] refl

-- a counted reference stands among all as often as among the counted ones
counted_times : (rep : WireRep) (reps : List WireRep) → is_counted rep ≡ true → times rep (filter is_counted reps) ≡ times rep reps
counted_times rep [] counted = refl
counted_times rep (other ∷ reps) counted = elim (is_counted other) as (λ b. is_counted other ≡ b → times rep (cond b (other ∷ filter is_counted reps) (filter is_counted reps)) ≡ times rep (other ∷ reps)) [
  | true ↦ λ also. elim (is_same rep other) as (λ b. length (cond b (other ∷ filter (is_same rep) (filter is_counted reps)) (filter (is_same rep) (filter is_counted reps))) ≡ length (cond b (other ∷ filter (is_same rep) reps) (filter (is_same rep) reps))) [
    | true ↦ (let rest : times rep (filter is_counted reps) ≡ times rep reps = counted_times rep reps counted in omega (arith, rest))
    | false ↦ counted_times rep reps counted
  ]
  | false ↦ λ agent. elim (is_same rep other) as (λ b. is_same rep other ≡ b → times rep (filter is_counted reps) ≡ length (cond b (other ∷ filter (is_same rep) reps) (filter (is_same rep) reps))) [
    | true ↦ λ same. absurd (clash (subst (λ (w : WireRep). is_counted w ≡ true) (same_is rep other same) counted) agent)
    | false ↦ λ differs. counted_times rep reps counted
  ] refl
] refl
  where
    clash : {b : Bool} → b ≡ true → b ≡ false → ⊥
    clash is isnt = (let bad : true ≡ false = sym is ∙ isnt in absurd (cc))

-- the agent stands never among counted ones
agent_times : (rep : WireRep) (reps : List WireRep) → is_counted rep ≡ false → times rep (filter is_counted reps) ≡ 0
agent_times rep reps agent = none (filter is_counted reps) (all_counted reps)
  where
    clash : {b : Bool} → b ≡ true → b ≡ false → ⊥
    clash is isnt = (let bad : true ≡ false = sym is ∙ isnt in absurd (cc))

    none : (xs : List WireRep) → AllByRecursion (λ (rep : WireRep). is_counted rep ≡ true) xs → times rep xs ≡ 0
    none [] all = refl
    none (x ∷ xs) all = elim (is_same rep x) as (λ b. is_same rep x ≡ b → length (cond b (x ∷ filter (is_same rep) xs) (filter (is_same rep) xs)) ≡ 0) [
      | true ↦ λ same. absurd (clash (subst (λ (w : WireRep). is_counted w ≡ true) (sym (same_is rep x same)) all.0) agent)
      | false ↦ λ differs. none xs all.1
    ] refl

-- tests that agree on all elements
any_same : {A : Type 0} (f g : A → Bool) (xs : List A) → AllByRecursion (λ (x : A). f x ≡ g x) xs → list_any f xs ≡ list_any g xs
any_same f g [] all = refl
any_same f g (x ∷ xs) all = λ i. all.0 i || any_same f g xs all.1 i

all_of : {A : Type 0} (P Q : A → Type 0) → ((x : A) → P x → Q x) → (xs : List A) → AllByRecursion P xs → AllByRecursion Q xs
all_of P Q f [] all = tt
all_of P Q f (x ∷ xs) all = (f x all.0, all_of P Q f xs all.1)

-- where no element passes, none that stands among them does
none_passes : (f : WireRep → Bool) (rep : WireRep) (xs : List WireRep) → list_any f xs ≡ false → 1 ≤ times rep xs → f rep ≡ false
none_passes f rep [] none some = absurd (omega (arith, some))
none_passes f rep (x ∷ xs) none some = elim (is_same rep x) as (λ b. is_same rep x ≡ b → 1 ≤ length (cond b (x ∷ filter (is_same rep) xs) (filter (is_same rep) xs)) → f rep ≡ false) [
  | true ↦ λ same _. subst (λ (w : WireRep). f w ≡ false) (sym (same_is rep x same)) (or_parts (f x) (list_any f xs) none).0
  | false ↦ λ differs few. none_passes f rep xs (or_parts (f x) (list_any f xs) none).1 few
] refl some

-- ---- lists of which one passes at most

no_filter : {A : Type 0} (p : A → Bool) (xs : List A) → length (filter p xs) ≡ 0 → filter (λ (x : A). not (p x)) xs ≡ xs
no_filter p [] none = refl
no_filter {A} p (x ∷ xs) none = elim (p x) as (λ b. length (cond b (x ∷ filter p xs) (filter p xs)) ≡ 0 → cond (not b) (x ∷ filter (λ (x : A). not (p x)) xs) (filter (λ (x : A). not (p x)) xs) ≡ x ∷ xs) [
  | true ↦ λ e. absurd (omega (arith, e))
  | false ↦ λ e. ap (λ ys. x ∷ ys) (no_filter p xs e)
] none

found_counts : {A : Type 0} (p : A → Bool) (xs : List A) (m : A) → find p xs ≡ Some m → 1 ≤ length (filter p xs)
found_counts p [] m found = absurd (none-some m found)
found_counts {A} p (x ∷ xs) m found = elim (p x) as (λ b. cond b (Some x) (find p xs) ≡ Some m → 1 ≤ length (cond b (x ∷ filter p xs) (filter p xs))) [ true ↦ λ here. omega arith | false ↦ λ there. found_counts p xs m there ] found

one_filter : {A : Type 0} (p : A → Bool) (xs : List A) (m : A) → length (filter p xs) ≤ 1 → find p xs ≡ Some m → filter (λ (x : A). not (p x)) xs ≡ without_first p xs
one_filter p [] m one found = refl
one_filter {A} p (x ∷ xs) m one found = elim (p x) as (λ b. length (cond b (x ∷ filter p xs) (filter p xs)) ≤ 1 → cond b (Some x) (find p xs) ≡ Some m → cond (not b) (x ∷ filter (λ (x : A). not (p x)) xs) (filter (λ (x : A). not (p x)) xs) ≡ (if b then xs else x ∷ without_first p xs)) [
  | true ↦ λ e here. no_filter p xs (omega (arith, e))
  | false ↦ λ e there. ap (λ ys. x ∷ ys) (one_filter p xs m e there)
] one found

-- ---- loans

lent_reps : (copies : List RefCopy) → AllByRecursion (λ (copy : RefCopy). copy.loan ≡ loans.Lent) copies → copies_lent copies ≡ reps_of copies
lent_reps [] all = refl
lent_reps (copy ∷ copies) all = (let lent : is_lent copy.loan ≡ true = ap is_lent all.0 in rw lent (ap (λ reps. copy.rep ∷ reps) (lent_reps copies all.1)))

module _ {s n : ℕ} {limits : Limits} {st : State} {D : List Deed} (stands : Stands s n limits st D) (k : ℕ) where
  -- the ready reply carries the references of its item, all of them lent
  carried : (m : Message) → find (is_reply k) st.work.replies ≡ Some m → reps_of m.copies ≡ counted_in m.item
  carried m found = all_found Carries (is_reply k) (work s n D).replies m (subst (λ (w : Outstanding). find (is_reply k) w.replies ≡ Some m) stands.work found) (all_carry s n D).replies

  lent_there : (m : Message) → find (is_reply k) st.work.replies ≡ Some m → copies_lent m.copies ≡ reps_of m.copies
  lent_there m found = lent_reps m.copies (all_found IsAllLent (is_reply k) (work s n D).replies m (subst (λ (w : Outstanding). find (is_reply k) w.replies ≡ Some m) stands.work found) (all_lent s n limits D stands.right).replies)

  -- the hand that the table tells
  handful_there : (value : Value) (reps : List WireRep) → reps ≡ filter is_counted (refs_in value) → is_handful value (history_of s n D) ≡ is_overfull st.table reps
  handful_there value reps is = subst (λ rs. is_handful value (history_of s n D) ≡ is_overfull st.table rs) (sym is)
      (any_same _ _ (filter is_counted (refs_in value)) (all_of (λ (rep : WireRep). is_counted rep ≡ true) _ (λ rep counted. ap (λ j. nat_lt greatest_hand (j + times rep (filter is_counted (refs_in value)))) (sym (stands.table.hands rep counted))) (filter is_counted (refs_in value)) (all_counted (refs_in value))))

  item_right : (item : Item) (reps : List WireRep) → reps ≡ counted_in item → right.answer_of_reply item (history_of s n D) ≡ answer_of_item st.table reps item
  unfolding right.answer_of_reply
  item_right (items.Reply call status value) reps is = ap (λ b. unless (refuse_if b refusals.Limit) (answers.Replied status value)) (handful_there value reps is)
  item_right (items.Call call target method value) reps is = refl
  item_right (items.Settle item) reps is = refl
  item_right (items.Dirty index) reps is = refl
  item_right (items.DirtyOk index) reps is = refl
  item_right (items.DirtyNo index) reps is = refl
  item_right (items.Clean index) reps is = refl

  reply_right : (own : OwnCall) (found : Option Message) → find (is_reply k) st.work.replies ≡ found → right.answer_of_call own found (history_of s n D) ≡ answer_of_reply st.table own found
  unfolding right.answer_of_call
  reply_right own None is = refl
  reply_right own (Some m) is = item_right m.item (reps_of m.copies) (carried m is)

  call_right : (found : Option OwnCall) → right.take_of k found (history_of s n D) ≡ answer_of_call k st found
  unfolding right.take_of
  call_right None = refl
  call_right (Some own) = ap (λ (w : Outstanding). right.answer_of_call own (find (is_reply k) w.replies) (history_of s n D)) (sym stands.work) ∙ reply_right own (find (is_reply k) st.work.replies) refl

  -- what is right for a TakeReply is what the state tells
  pub take_right : right_take_reply k (history_of s n D) ≡ take_answer k st
  unfolding right_take_reply take_answer
  take_right = ap (λ (w : Outstanding). right.take_of k (find (is_call k) w.calls) (history_of s n D)) (sym stands.work) ∙ call_right (find (is_call k) st.work.calls)

-- a test of the references of copies
pub any_copy : (f : WireRep → Bool) (copies : List RefCopy) → list_any (λ (copy : RefCopy). f copy.rep) copies ≡ list_any f (reps_of copies)
any_copy f [] = refl
any_copy f (copy ∷ copies) = ap (λ b. f copy.rep || b) (any_copy f copies)

module _ (k : ℕ) (st : State) where
  -- there is no such call
  pub take_no_call : find (is_call k) st.work.calls ≡ None → take_answer k st ≡ Err refusals.NoCall
  unfolding take_answer
  take_no_call missing = ap (answer_of_call k st) missing

  -- there is no ready reply to a call
  pub take_no_reply : (own : OwnCall) → find (is_call k) st.work.calls ≡ Some own → find (is_reply k) st.work.replies ≡ None → take_answer k st ≡ answer_of_stage own.stage
  unfolding take_answer
  take_no_reply own there missing = ap (answer_of_call k st) there ∙ ap (answer_of_reply st.table own) missing

  -- there is one
  pub take_reply_there : (own : OwnCall) (m : Message) → find (is_call k) st.work.calls ≡ Some own → find (is_reply k) st.work.replies ≡ Some m → take_answer k st ≡ answer_of_item st.table (reps_of m.copies) m.item
  unfolding take_answer
  take_reply_there own m there found = ap (answer_of_call k st) there ∙ ap (answer_of_reply st.table own) found

-- the Reply to a call
pub reply_is : (k : ℕ) (item : Item) → replies_to k item ≡ true → (status : ℕ) × (value : Value) × (item ≡ items.Reply k status value)
reply_is k (items.Reply call status value) is = (status, value, ap (λ j. items.Reply j status value) (eqb-true call k is))
reply_is k (items.Call call target method value) is = absurd (differ is refl)
reply_is k (items.Settle item) is = absurd (differ is refl)
reply_is k (items.Dirty index) is = absurd (differ is refl)
reply_is k (items.DirtyOk index) is = absurd (differ is refl)
reply_is k (items.DirtyNo index) is = absurd (differ is refl)
reply_is k (items.Clean index) is = absurd (differ is refl)

-- what is answered to a Reply
pub full_answer : (t : Table) (reps : List WireRep) (k : ℕ) (item : Item) → replies_to k item ≡ true → is_overfull t reps ≡ true → answer_of_item t reps item ≡ Err refusals.Limit
full_answer t reps k item is full =
    let told = reply_is k item is in
    subst (λ (i : Item). answer_of_item t reps i ≡ Err refusals.Limit) (sym told.2) (rw full refl)

pub reply_answer : (t : Table) (reps : List WireRep) (k status : ℕ) (value : Value) (item : Item) → item ≡ items.Reply k status value → is_overfull t reps ≡ false → answer_of_item t reps item ≡ Ok (answers.Replied status value)
reply_answer t reps k status value item is room = subst (λ (i : Item). answer_of_item t reps i ≡ Ok (answers.Replied status value)) (sym is) (rw room refl)

module _ {s n : ℕ} {limits : Limits} {st : State} {D : List Deed} (stands : Stands s n limits st D) (k : ℕ) (m : Message) (found : find (is_reply k) st.work.replies ≡ Some m) (is : replies_to k m.item ≡ true) where
  -- in the list of the outstanding work
  reply_there : find (is_reply k) (work s n D).replies ≡ Some m
  reply_there = subst (λ (w : Outstanding). find (is_reply k) w.replies ≡ Some m) stands.work found

  -- a Reply lends what it carries
  loans_there : loans_of s m ≡ reps_of m.copies
  loans_there = (let told = reply_is k m.item is in ap (λ (i : Item). target_lent s i ++ copies_lent m.copies) told.2 ∙ lent_there stands k m found)

  -- the outstanding work without it
  abbrev less : Outstanding
  less = record { waiting = (work s n D).waiting; ready = (work s n D).ready; running = (work s n D).running; replies = without_first (is_reply k) (work s n D).replies; calls = filter (λ own. not (is_call k own)) (work s n D).calls }

  -- it lent as often as it carries
  loans_less : (rep : WireRep) → times rep (lent_in s (work s n D)) ≡ times rep (reps_of m.copies) + times rep (lent_in s less)
  loans_less rep =
      let W : Outstanding = work s n D in
      let before = times_lent s rep W in
      let after = times_lent s rep less in
      let one : times rep (flat_map (loans_of s) W.replies) ≡ times rep (loans_of s m) + times rep (flat_map (loans_of s) (without_first (is_reply k) W.replies)) = times_without (loans_of s) (is_reply k) rep W.replies m reply_there in
      let its : times rep (loans_of s m) ≡ times rep (reps_of m.copies) = ap (times rep) loans_there in
      omega (arith, before, after, one, its)

  -- its references can come into the hand
  pub can_take : is_overfull st.table (reps_of m.copies) ≡ false → CanTake st.table (reps_of m.copies)
  can_take room =
      let are : reps_of m.copies ≡ counted_in m.item = carried stands k m found in
      record {
        lent = λ rep. elim (is_counted rep) as (λ b. is_counted rep ≡ b → times rep (reps_of m.copies) ≤ (standing st.table rep).counts.lent) [
          | true ↦ λ counted.
              let table : (standing st.table rep).counts.lent ≡ times rep (lent_in s (work s n D)) = stands.table.loans rep counted in
              let less_one = loans_less rep in
              omega (arith, table, less_one)
          | false ↦ λ agent.
              let none : times rep (reps_of m.copies) ≡ 0 = ap (times rep) are ∙ agent_times rep (refs_carried m.item) agent in
              omega (arith, none)
        ] refl;
        room = λ rep some.
            let under : nat_lt greatest_hand ((standing st.table rep).counts.hand + times rep (reps_of m.copies)) ≡ false = none_passes (is_full st.table (reps_of m.copies)) rep (reps_of m.copies) room some in
            grind (arith, nat_tests, under);
      }

  module _ (status : ℕ) (value : Value) (told : m.item ≡ items.Reply k status value) where
    less_fixed : AreFixed s n (TakeReply k status value ∷ D) less
    unfolding message_after run_after copy_after
    less_fixed =
        let fixed : AreFixed s n D (work s n D) = work_fixed s n D in
        record {
          waiting = fixed.waiting;
          ready = fixed.ready;
          running = fixed.running;
          replies = all_without (λ message. message_after s n D message ≡ message) (is_reply k) (work s n D).replies fixed.replies;
        }

    -- the outstanding work after it was taken
    take_work : work s n (TakeReply k status value ∷ D) ≡ less
    unfolding work_after after_take
    take_work =
        let W : Outstanding = work s n D in
        let once : length (filter (is_reply k) W.waiting) + length (filter (is_reply k) W.replies) ≤ 1 = (answered_once s n limits D stands.right).once k in
        let some : 1 ≤ length (filter (is_reply k) W.replies) = found_counts (is_reply k) W.replies m reply_there in
        let waiting : filter (is_not_reply k) W.waiting ≡ W.waiting = no_filter (is_reply k) W.waiting (omega (arith, once, some)) in
        let replies : filter (is_not_reply k) W.replies ≡ without_first (is_reply k) W.replies = one_filter (is_reply k) W.replies m (omega (arith, once)) reply_there in
        let is_less : after_take k W ≡ less = λ i. record { waiting = waiting i; ready = W.ready; running = W.running; replies = replies i; calls = filter (λ own. not (is_call k own)) W.calls } in
        ap (λ w. with_loans s n (TakeReply k status value ∷ D) w) is_less ∙ fixed_stays s n (TakeReply k status value ∷ D) less less_fixed

    -- the hand after it was taken
    take_hand : (rep : WireRep) → is_counted rep ≡ true → with_more (reps_of m.copies) (λ w. hand w D) rep ≡ hand rep (TakeReply k status value ∷ D)
    take_hand rep counted =
        let are : reps_of m.copies ≡ filter is_counted (refs_in value) = carried stands k m found ∙ ap counted_in told in
        let same : times rep (reps_of m.copies) ≡ times rep (refs_in value) = ap (times rep) are ∙ counted_times rep (refs_in value) counted in
        let all : times rep (refs_in value ++ gains D) ≡ times rep (refs_in value) + times rep (gains D) = times_both rep (refs_in value) (gains D) in
        let low : times rep (releases D) ≤ times rep (gains D) = (orderly stands).released rep counted in
        omega (arith, same, all, low)

    -- what is lent after it was taken
    take_loans : (rep : WireRep) → with_fewer (reps_of m.copies) (λ w. times w (lent_in s (work s n D))) rep ≡ times rep (lent_in s (work s n (TakeReply k status value ∷ D)))
    take_loans rep =
        let less_one : times rep (lent_in s (work s n D)) ≡ times rep (reps_of m.copies) + times rep (lent_in s less) = loans_less rep in
        let left : times rep (lent_in s (work s n D)) - times rep (reps_of m.copies) ≡ times rep (lent_in s less) = omega (arith, less_one) in
        left ∙ ap (λ (w : Outstanding). times rep (lent_in s w)) (sym take_work)

    -- after a TakeReply
    pub take_stands : (t : Table) (replies : List Message) (calls : List OwnCall) → IsRightDeed s n limits (TakeReply k status value) D
        → TableShows s n t (history_of s n D) (with_more (reps_of m.copies) (λ w. hand w D)) (with_fewer (reps_of m.copies) (λ w. times w (lent_in s (work s n D))))
        → replies ≡ without_first (is_reply k) st.work.replies → calls ≡ filter (λ own. not (is_call k own)) st.work.calls
        → Stands s n limits (record { sessions = st.sessions; table = t; dirty = st.dirty; pins = st.pins; work = record { waiting = st.work.waiting; ready = st.work.ready; running = st.work.running; replies = replies; calls = calls }; awaited = st.awaited; calls = st.calls; jobs = st.jobs }) (TakeReply k status value ∷ D)
    unfolding gifts gifts_of
    take_stands t replies calls its shows others left =
        let fewer : replies ≡ without_first (is_reply k) (work s n D).replies = others ∙ ap (λ (w : Outstanding). without_first (is_reply k) w.replies) stands.work in
        let rest : calls ≡ filter (λ own. not (is_call k own)) (work s n D).calls = left ∙ ap (λ (w : Outstanding). filter (λ own. not (is_call k own)) w.calls) stands.work in
        let is_less : record { waiting = st.work.waiting; ready = st.work.ready; running = st.work.running; replies = replies; calls = calls } ≡ less = λ i. record { waiting = (stands.work i).waiting; ready = (stands.work i).ready; running = (stands.work i).running; replies = fewer i; calls = rest i } in
        record {
          ends = record { each = stands.ends.each; ends = stands.ends.ends };
          table = record {
            me = shows.me;
            exported = shows.exported;
            live = shows.live;
            far = shows.far;
            hands = λ rep counted. shows.hands rep counted ∙ take_hand rep counted;
            loans = λ rep counted. shows.loans rep counted ∙ take_loans rep;
            passed = shows.passed;
            dirties = shows.dirties;
            places = shows.places;
            kept = shows.kept;
          };
          listed = stands.listed;
          pins = stands.pins;
          work = is_less ∙ sym take_work;
          awaited = stands.awaited;
          calls = stands.calls;
          jobs = stands.jobs;
          right = (its, stands.right);
        }

module _ {s n : ℕ} {limits : Limits} {st : State} {D : List Deed} (stands : Stands s n limits st D) (k : ℕ) where
  -- the outstanding work without a call that ended
  abbrev without_call : Outstanding
  without_call = record { waiting = (work s n D).waiting; ready = (work s n D).ready; running = (work s n D).running; replies = (work s n D).replies; calls = filter (λ own. not (is_call k own)) (work s n D).calls }

  end_fixed : AreFixed s n (TakeEnd k ∷ D) without_call
  unfolding message_after run_after copy_after
  end_fixed = (let fixed : AreFixed s n D (work s n D) = work_fixed s n D in record { waiting = fixed.waiting; ready = fixed.ready; running = fixed.running; replies = fixed.replies })

  end_work : work s n (TakeEnd k ∷ D) ≡ without_call
  unfolding work_after after_end
  end_work = fixed_stays s n (TakeEnd k ∷ D) without_call end_fixed

  -- after it was told that there will be no reply
  pub end_stands : (calls : List OwnCall) → IsRightDeed s n limits (TakeEnd k) D → calls ≡ filter (λ own. not (is_call k own)) st.work.calls
      → Stands s n limits (record { sessions = st.sessions; table = st.table; dirty = st.dirty; pins = st.pins; work = record { waiting = st.work.waiting; ready = st.work.ready; running = st.work.running; replies = st.work.replies; calls = calls }; awaited = st.awaited; calls = st.calls; jobs = st.jobs }) (TakeEnd k ∷ D)
  unfolding gifts gifts_of
  end_stands calls its left =
      let rest : calls ≡ filter (λ own. not (is_call k own)) (work s n D).calls = left ∙ ap (λ (w : Outstanding). filter (λ own. not (is_call k own)) w.calls) stands.work in
      let is_less : record { waiting = st.work.waiting; ready = st.work.ready; running = st.work.running; replies = st.work.replies; calls = calls } ≡ without_call = λ i. record { waiting = (stands.work i).waiting; ready = (stands.work i).ready; running = (stands.work i).running; replies = (stands.work i).replies; calls = rest i } in
      record {
        ends = record { each = stands.ends.each; ends = stands.ends.ends };
        table = record {
          me = stands.table.me;
          exported = stands.table.exported;
          live = stands.table.live;
          far = stands.table.far;
          hands = stands.table.hands;
          loans = λ rep counted. stands.table.loans rep counted ∙ ap (λ (w : Outstanding). times rep (lent_in s w)) (sym end_work);
          passed = stands.table.passed;
          dirties = stands.table.dirties;
          places = stands.table.places;
          kept = stands.table.kept;
        };
        listed = stands.listed;
        pins = stands.pins;
        work = is_less ∙ sym end_work;
        awaited = stands.awaited;
        calls = stands.calls;
        jobs = stands.jobs;
        right = (its, stands.right);
      }

-- what the code saw of copies is so of their references
pub overfull_there : (t : Table) (seen copies : List RefCopy) (b : Bool) → seen ≡ copies → b ≡ list_any (λ (copy : RefCopy). is_full t (reps_of seen) copy.rep) seen → is_overfull t (reps_of copies) ≡ b
overfull_there t seen copies b same e = subst (λ (cs : List RefCopy). is_overfull t (reps_of cs) ≡ b) same (sym (e ∙ any_copy (is_full t (reps_of seen)) seen))

reply_call : (a b x y : ℕ) (v w : Value) → items.Reply a x v ≡ items.Reply b y w → a ≡ b
reply_call a b x y v w e = cc

-- the Reply to a call, with what was found in it
pub reply_told : (k : ℕ) (item : Item) → replies_to k item ≡ true → (call status : ℕ) (value : Value) → item ≡ items.Reply call status value → item ≡ items.Reply k status value
reply_told k item replies call status value is =
    let told = reply_is k item replies in
    let same : call ≡ k = reply_call call k status told.0 value told.1 (sym is ∙ told.2) in
    is ∙ ap (λ j. items.Reply j status value) same

-- whether a reply is ready, by the state
pub ready_there : {s n : ℕ} {limits : Limits} {st : State} {D : List Deed} → Stands s n limits st D → (k : ℕ) → reply_ready k (history_of s n D) ≡ not (is_not_ready (take_answer k st))
ready_there stands k = ap (λ answer. not (is_not_ready answer)) (take_right stands k)

-- where a Reply is ready something is said of it
pub ready_reply : (t : Table) (reps : List WireRep) (k : ℕ) (item : Item) → replies_to k item ≡ true → not (is_not_ready (answer_of_item t reps item)) ≡ true
ready_reply t reps k item is =
    let told = reply_is k item is in
    subst (λ (i : Item). not (is_not_ready (answer_of_item t reps i)) ≡ true) (sym told.2)
    (elim (is_overfull t reps) as (λ b. not (is_not_ready (unless (refuse_if b refusals.Limit) (answers.Replied told.0 told.1))) ≡ true) [ true ↦ refl | false ↦ refl ])

-- ---- the value that is brought

-- what is refused brings none
pub refused_brings_none : {answer : Result Answer Refusal} (status : ℕ) (value : Value) (refusal : Refusal) → answer ≡ Ok (answers.Replied status value) → answer ≡ Err refusal → ⊥
refused_brings_none status value refusal is refused = (let bad : Ok (answers.Replied status value) ≡ Err refusal = sym is ∙ refused in cc)

-- nor does a call without a ready reply
pub stage_brings_none : (status : ℕ) (value : Value) (stage : Stage) → answer_of_stage stage ≡ Ok (answers.Replied status value) → ⊥
stage_brings_none status value stages.Sent is = cc
stage_brings_none status value stages.Answered is = cc
stage_brings_none status value stages.Ended is = cc

-- two replies that are brought have one value
pub brings_same : {answer : Result Answer Refusal} (status other : ℕ) (value again : Value) → answer ≡ Ok (answers.Replied status value) → answer ≡ Ok (answers.Replied other again) → value ≡ again
brings_same status other value again one two = (let same : Ok (answers.Replied status value) ≡ Ok (answers.Replied other again) = sym one ∙ two in cc)
