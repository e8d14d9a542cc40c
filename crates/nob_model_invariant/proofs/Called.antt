-- On every list of right deeds Calls are sent once each, by numbers that rise; and a Call that was sent has its Reply acted
-- on or waits for one, unless the session with its owner has closed.
use Rattle.std.proofs.Common.{◌≡◌, ℕ, ◌+◌, ◌≤◌, ◌<◌, ◌&&◌, ◌||◌, not, Bool, true, false, cond, List, [], ◌∷◌, ◌++◌, map, filter, find, Option, Some, None, if◌then◌else◌, refl, sym, ap, subst, ◌∙◌, arith, ◌⊎◌, inl, inr}
use Rattle.std.specs.Prelude.{◌==◌, nat_le}
use Rattle.std.specs.List.{AllByRecursion, list_any, cons_option}
use Rattle.std.proofs.lemmas.Bool.{eqb-true, eqb-false, eq-eqb, ne_eqb, and_parts, and_from, leb-true, leb-false}
use Rattle.std.proofs.lemmas.List.Elements.{filter_map-append}
use Rattle.nob_ids.specs.declared.limits.Limits.{Limits}
use Rattle.nob_ids.specs.declared.wire_rep.WireRep.{WireRep}
use Rattle.nob_pickle.specs.declared.value.Value.{Value}
use Rattle.nob_pickle.specs.declared.value.Value.TheVariants as values
use Rattle.nob_item.specs.Kinds.{is_note}
use Rattle.nob_item.specs.declared.item.Item.{Item}
use Rattle.nob_item.specs.declared.item.Item.TheVariants as items
use Rattle.nob_model_types.specs.declared.answer.Job.{Job}
use Rattle.nob_model_types.specs.declared.event.Outcome.{Outcome}
use Rattle.nob_model_types.specs.declared.deed.Deed.{Deed}
use Rattle.nob_model_types.specs.declared.deed.Deed.TheVariants as did
use Rattle.nob_model_types.specs.declared.message.Message.{Message}
use Rattle.nob_model_types.specs.Sessions.{is_peer, closed, number, item_at, acted}
use Rattle.nob_model_types.specs.Messages.{new_message, is_of, replies_to, is_job, is_lost_message}
use Rattle.nob_model_work.specs.declared.gifts.Gift.{Gift}
use Rattle.nob_model_work.specs.declared.work.Outstanding.{Outstanding}
use Rattle.nob_model_work.specs.declared.work.OwnCall.{OwnCall}
use Rattle.nob_model_work.specs.declared.work.Stage.{Stage}
use Rattle.nob_model_work.specs.declared.work.Stage.TheVariants as stages
use Rattle.nob_model_work.specs.declared.work.Run.{Run}
use Rattle.nob_model_work.specs.Work.{is_call, is_run, wait, make_ready, make_reply, is_none_of, stage_after_reply, call_after_reply, call_after_close, with_calls, is_reply_from, after_message, after_act, after_settlement, without_waiting, after_settle, after_claim, after_finish, after_take, after_end, after_call, after_close, work_after, with_loans, work}
use Rattle.nob_model_work.specs.Gifts.{lost_call_reply, gifts_of_settle, status_of, value_of, reply_to, gifts_of_finish, gifts_of, gifts}
use Rattle.nob_model_history.specs.Histories.{history_of}
use Rattle.nob_model_history.specs.Ends.{items_to}
use Rattle.nob_model_history.specs.declared.transit.SentItem.{SentItem}
use Rattle.nob_model_history.specs.Transit.{is_sent_to, sent}
use Rattle.nob_model_history.proofs.Numbered.{items_sent_to, gifts_sent_to, items_sent_in}
use Rattle.nob_model_history.proofs.Sessions.{opens, number_kept}
use Rattle.nob_model_acting.specs.Acting.{is_sent, awaits_reply}
use Rattle.nob_model.specs.Right.{calls_made, right_after}
use Rattle.nob_model.specs.Lists.{AreRightDeeds}
use Rattle.nob_model.proofs.Doing.{was_answered}
use Rattle.nob_model.proofs.Accepted.{call_tells, take_tells, take_end_tells}
use Rattle.nob_model.proofs.Replying.{is_asked, replies_in, AreOneEach, AreAnsweredOnce, answered_once}
use Rattle.nob_model_invariant.specs.Asking.{items_among}
use Rattle.nob_model_invariant.specs.Counting.{count_of, makes_call}
use Rattle.nob_model_invariant.proofs.Counts.{none_some, one_if, count_first, count_append, count_found, any_mapped, any_weaker, any_kept, any_before, any_last}
use Rattle.nob_model_invariant.proofs.BySession.{sent_now_more}
use Rattle.nob_model_invariant.proofs.Opened.{opens_above}
use Rattle.nob_model_invariant.proofs.EachSession.{closed_kept}
use Rattle.nob_model_invariant.proofs.Anew.{none_sent_new}
use Rattle.nob_model_invariant.proofs.Fair.{gives, no_second, count_given, notes_give}

note_calls : (k : ℕ) (item : Item) → is_note item ≡ true → makes_call k item ≡ false
note_calls k (items.Call call target method value) is = cc
note_calls k (items.Reply call status value) is = cc
note_calls k (items.Settle item) is = refl
note_calls k (items.Dirty index) is = refl
note_calls k (items.DirtyOk index) is = refl
note_calls k (items.DirtyNo index) is = refl
note_calls k (items.Clean index) is = refl

-- no more of something was sent in a session than in all
pub fewer_in : (test : Item → Bool) (p session : ℕ) (sent_items : List SentItem) → count_of test (items_sent_in p session sent_items) ≤ count_of test (items_sent_to p sent_items)
fewer_in test p session [] = omega arith
fewer_in test p session (one ∷ more) = by (one.to == p) (one.session == session) (fewer_in test p session more)
  where
    by : (own now : Bool) → count_of test (items_sent_in p session more) ≤ count_of test (items_sent_to p more) → count_of test (map (λ (x : SentItem). x.item) (cond (own && now) (one ∷ filter (is_sent_to p session) more) (filter (is_sent_to p session) more))) ≤ count_of test (map (λ (x : SentItem). x.item) (cond own (one ∷ filter (λ (x : SentItem). x.to == p) more) (filter (λ (x : SentItem). x.to == p) more)))
    by true true rest = let few = count_first test one.item (items_sent_in p session more) in let all = count_first test one.item (items_sent_to p more) in omega (arith, rest, few, all)
    by true false rest = let all = count_first test one.item (items_sent_to p more) in omega (arith, rest, all)
    by false now rest = rest

module _ (p k : ℕ) where
  -- ---- what is called

  -- how many Calls k to p there are among gifts
  abbrev called : List Gift → ℕ
  called more = count_of (gives (makes_call k) p) more

  one_none : (q : ℕ) (item : Item) (more : List Gift) → makes_call k item ≡ false → called (record { to = q; item = item } ∷ more) ≡ called more
  one_none q item more none =
      let first = count_first (gives (makes_call k) p) (record { to = q; item = item }) more in
      let zero_of : one_if (q == p && makes_call k item) ≡ 0 = ap (λ (b : Bool). one_if (q == p && b)) none ∙ no_second (q == p) in
      omega (arith, first, zero_of)

  finish_calls : (q : ℕ) (item : Item) (outcome : Outcome) → called (reply_to q item outcome) ≡ 0
  unfolding reply_to
  finish_calls q (items.Call call target method value) outcome = one_none q (items.Reply call (status_of outcome) (value_of outcome)) [] refl
  finish_calls q (items.Reply call status value) outcome = refl
  finish_calls q (items.Settle item) outcome = refl
  finish_calls q (items.Dirty index) outcome = refl
  finish_calls q (items.DirtyOk index) outcome = refl
  finish_calls q (items.DirtyNo index) outcome = refl
  finish_calls q (items.Clean index) outcome = refl

  run_calls : (outcome : Outcome) (found : Option Run) → called (gifts_of_finish outcome found) ≡ 0
  unfolding gifts_of_finish
  run_calls outcome None = refl
  run_calls outcome (Some run) = finish_calls run.message.from run.message.item outcome

  lost_calls : (q : ℕ) (item : Item) (lost : Bool) → called (lost_call_reply q item lost) ≡ 0
  unfolding lost_call_reply
  lost_calls q (items.Call call target method value) true = one_none q (items.Reply call 3 values.Unit) [] refl
  lost_calls q (items.Call call target method value) false = refl
  lost_calls q (items.Reply call status value) lost = refl
  lost_calls q (items.Settle item) lost = refl
  lost_calls q (items.Dirty index) lost = refl
  lost_calls q (items.DirtyOk index) lost = refl
  lost_calls q (items.DirtyNo index) lost = refl
  lost_calls q (items.Clean index) lost = refl

  settle_calls : (s n q j : ℕ) (D : List Deed) (found : Option Message) → called (gifts_of_settle s n q j D found) ≡ 0
  unfolding gifts_of_settle
  settle_calls s n q j D None = refl
  settle_calls s n q j D (Some m) = one_none q (items.Settle j) (lost_call_reply q m.item (is_lost_message s n D m)) refl ∙ lost_calls q m.item (is_lost_message s n D m)

  -- whether a deed is Call k to p, counted
  abbrev pub calls_so : Deed → ℕ
  calls_so (did.Call target method value call) = one_if (target.owner == p && call == k)
  calls_so (_) = 0

  deed_calls : (s n : ℕ) (deed : Deed) (D : List Deed) (W : Outstanding) → called (gifts_of s n deed D W) ≤ calls_so deed
  unfolding gifts_of
  deed_calls s n (did.Call target method value call) D W = let first = count_first (gives (makes_call k) p) (record { to = target.owner; item = items.Call call target.index method value }) [] in omega (arith, first)
  deed_calls s n (did.Finish job outcome) D W = let none = run_calls outcome (find (is_run job) W.running) in omega (arith, none)
  deed_calls s n (did.Settle q j) D W = let none = settle_calls s n q j D (find (is_of q j) W.waiting) in omega (arith, none)
  deed_calls s n (did.Act q j) D W = let none = notes_give (makes_call k) (note_calls k) p s n (did.Act q j) D W refl in omega (arith, none)
  deed_calls s n (did.Clean rep) D W = let none = notes_give (makes_call k) (note_calls k) p s n (did.Clean rep) D W refl in omega (arith, none)
  deed_calls s n deed D W = omega arith

  -- how often Call k was sent to p
  abbrev pub calls_sent : (s n : ℕ) → List Deed → ℕ
  calls_sent s n D = count_of (makes_call k) (items_sent_to p (sent (history_of s n D)))

  calls_more : (s n : ℕ) (deed : Deed) (D : List Deed) → calls_sent s n (deed ∷ D) ≤ calls_sent s n D + calls_so deed
  unfolding gifts
  calls_more s n deed D =
      let W : Outstanding = work s n D in
      let given = count_given (makes_call k) p (λ (gift : Gift). is_peer s n gift.to) (gifts_of s n deed D W) in
      let fewer = deed_calls s n deed D W in
      let whole = ap (count_of (makes_call k)) (gifts_sent_to p D (gifts s n deed D W) (sent (history_of s n D))) ∙ count_append (makes_call k) (items_sent_to p (sent (history_of s n D))) (items_to p (gifts s n deed D W)) in
      omega (arith, given, fewer, whole)

  -- how often it was sent in the present session
  abbrev pub calls_now : (s n : ℕ) → List Deed → ℕ
  calls_now s n D = count_of (makes_call k) (items_sent_in p (number p D) (sent (history_of s n D)))

  now_more : (s n : ℕ) (deed : Deed) (D : List Deed) → number p (deed ∷ D) ≡ number p D → calls_now s n (deed ∷ D) ≤ calls_now s n D + calls_so deed
  unfolding gifts
  now_more s n deed D same =
      let W : Outstanding = work s n D in
      let given = count_given (makes_call k) p (λ (gift : Gift). is_peer s n gift.to) (gifts_of s n deed D W) in
      let fewer = deed_calls s n deed D W in
      let whole = ap (λ (m : ℕ). count_of (makes_call k) (items_sent_in p m (sent (history_of s n (deed ∷ D))))) same ∙ ap (count_of (makes_call k)) (sent_now_more s n p deed D) ∙ count_append (makes_call k) (items_sent_in p (number p D) (sent (history_of s n D))) (items_to p (gifts s n deed D W)) in
      omega (arith, given, fewer, whole)

  -- ---- each once

  one_most : (b : Bool) → one_if b ≤ 1
  one_most true = omega arith
  one_most false = omega arith

  -- Call k was sent once at most, and not yet where fewer were made
  abbrev CalledOnce : (s n : ℕ) → List Deed → Type 0
  CalledOnce s n D = (calls_sent s n D ≤ 1) × (calls_made D < k → calls_sent s n D ≡ 0)

  call_once : (s n made call : ℕ) (target : WireRep) (method : ℕ) (value : Value) (D : List Deed) → made ≡ calls_made D → call ≡ made + 1 → CalledOnce s n D → (b : Bool) → (call == k) ≡ b → CalledOnce s n (did.Call target method value call ∷ D)
  call_once s n made call target method value D is next before true same =
      let number : call ≡ k = eqb-true call k same in
      let more = calls_more s n (did.Call target method value call) D in
      let one = one_most (target.owner == p && call == k) in
      let none : calls_sent s n D ≡ 0 = before.1 (omega (arith, is, next, number)) in
      (omega (arith, more, one, none), λ low. absurd (omega (arith, low, is, next, number)))
  call_once s n made call target method value D is next before false other =
      let more = calls_more s n (did.Call target method value call) D in
      let none : one_if (target.owner == p && call == k) ≡ 0 = ap (λ (b : Bool). one_if (target.owner == p && b)) other ∙ no_second (target.owner == p) in
      let most = before.0 in
      (omega (arith, more, none, most), λ low. let fewer : calls_sent s n D ≡ 0 = before.1 (omega (arith, low)) in omega (arith, more, none, fewer))

  other_once : (s n : ℕ) (deed : Deed) (D : List Deed) → calls_so deed ≡ 0 → calls_made (deed ∷ D) ≡ calls_made D → CalledOnce s n D → CalledOnce s n (deed ∷ D)
  other_once s n deed D none made before =
      let more = calls_more s n deed D in
      let most = before.0 in
      (omega (arith, more, none, most), λ low. let fewer : calls_sent s n D ≡ 0 = before.1 (omega (arith, low, made)) in omega (arith, more, none, fewer))

  pub called_once : (s n : ℕ) (limits : Limits) (D : List Deed) → AreRightDeeds s n limits D → CalledOnce s n D
  unfolding right_after
  called_once s n limits [] right = (omega arith, λ low. refl)
  called_once s n limits (did.Call target method value call ∷ D) right =
      let told = call_tells s n target value call (history_of s n D) (was_answered s n limits (did.Call target method value call) D right.0) in
      call_once s n (calls_made D) call target method value D refl told.0 (called_once s n limits D right.1) (call == k) refl
  called_once s n limits (deed ∷ D) right = other_once s n deed D refl refl (called_once s n limits D right.1)

  -- ---- calls that wait

  -- how Call k to p stands: its session has closed here, its Reply was acted on, or it waits for one
  abbrev pub IsAnswered : (s n : ℕ) → List Deed → Type 0
  IsAnswered s n D = (closed p D ≡ true) ⊎ ((1 ≤ count_of (replies_to k) (items_among (acted p D))) ⊎ (list_any (awaits_reply p k) (work s n D).calls ≡ true))

  awaits_parts : (own : OwnCall) → awaits_reply p k own ≡ true → (own.call ≡ k) × (own.to ≡ p) × (is_sent own.stage ≡ true)
  awaits_parts own awaits =
      let halves = and_parts (own.call == k && own.to == p) (is_sent own.stage) awaits in
      let first = and_parts (own.call == k) (own.to == p) halves.0 in
      (eqb-true own.call k first.0, eqb-true own.to p first.1, halves.1)

  awaits_from : (own : OwnCall) → own.call ≡ k → own.to ≡ p → is_sent own.stage ≡ true → awaits_reply p k own ≡ true
  awaits_from own call to up = and_from _ _ (and_from _ _ (eq-eqb own.call k call) (eq-eqb own.to p to)) up

  replied_still : (deed : Deed) (D : List Deed) → opens p deed ≡ false → 1 ≤ count_of (replies_to k) (items_among (acted p D)) → 1 ≤ count_of (replies_to k) (items_among (acted p (deed ∷ D)))
  replied_still (did.Act q j) D kept some = elim (q == p) as (λ b. 1 ≤ count_of (replies_to k) (items_among (cond b (acted p D ++ (j, item_at p j D) ∷ []) (acted p D)))) [
    | true ↦ (let more = acted_push j (item_at p j D) D in omega (arith, more, some))
    | false ↦ some
  ]
    where
      acted_push : (j : ℕ) (found : Option Item) (D : List Deed) → count_of (replies_to k) (items_among (acted p D ++ (j, found) ∷ [])) ≡ count_of (replies_to k) (items_among (acted p D)) + count_of (replies_to k) (cons_option found [])
      acted_push j found D = ap (count_of (replies_to k)) (filter_map-append (λ (pair : ℕ × Option Item). pair.1) (acted p D) ((j, found) ∷ [])) ∙ count_append (replies_to k) (items_among (acted p D)) (cons_option found [])
  replied_still (did.Open q j) D kept some = subst (λ (b : Bool). 1 ≤ count_of (replies_to k) (items_among (cond b [] (acted p D)))) (sym kept) some
  replied_still deed D kept some = some

  -- a Reply that is acted on counts
  replied_now : (q j call status : ℕ) (value : Value) (D : List Deed) → q ≡ p → call ≡ k → item_at q j D ≡ Some (items.Reply call status value) → 1 ≤ count_of (replies_to k) (items_among (acted p (did.Act q j ∷ D)))
  replied_now q j call status value D same number is =
      let found : item_at p j D ≡ Some (items.Reply call status value) = ap (λ (r : ℕ). item_at r j D) (sym same) ∙ is in
      let first = count_first (replies_to k) (items.Reply call status value) [] in
      let one : one_if (call == k) ≡ 1 = ap one_if (eq-eqb call k number) in
      let count : count_of (replies_to k) (cons_option (item_at p j D) []) ≡ count_of (replies_to k) (items.Reply call status value ∷ []) = ap (λ (i : Option Item). count_of (replies_to k) (cons_option i [])) found in
      let whole : count_of (replies_to k) (items_among (acted p D ++ (j, item_at p j D) ∷ [])) ≡ count_of (replies_to k) (items_among (acted p D)) + count_of (replies_to k) (cons_option (item_at p j D) []) = ap (count_of (replies_to k)) (filter_map-append (λ (pair : ℕ × Option Item). pair.1) (acted p D) ((j, item_at p j D) ∷ [])) ∙ count_append (replies_to k) (items_among (acted p D)) (cons_option (item_at p j D) []) in
      let some : 1 ≤ count_of (replies_to k) (items_among (acted p D ++ (j, item_at p j D) ∷ [])) = omega (arith, first, one, count, whole) in
      subst (λ (b : Bool). 1 ≤ count_of (replies_to k) (items_among (cond b (acted p D ++ (j, item_at p j D) ∷ []) (acted p D)))) (sym (eq-eqb q p same)) some

  sent_still : (stage : Stage) → is_sent stage ≡ true → is_sent (stage_after_reply false stage) ≡ true
  sent_still stages.Sent e = refl
  sent_still stages.Answered e = cc
  sent_still stages.Ended e = cc

  -- a Reply to another call leaves this one waiting
  other_reply : (q call : ℕ) → (q == p && call == k) ≡ false → (own : OwnCall) → awaits_reply p k own ≡ true → awaits_reply p k (call_after_reply q call own) ≡ true
  unfolding call_after_reply
  other_reply q call other own awaits =
      let parts = awaits_parts own awaits in
      let sent_one : is_sent (stage_after_reply (own.to == q && own.call == call) own.stage) ≡ true = elim (own.to == q && own.call == call) as (λ b. (own.to == q && own.call == call) ≡ b → is_sent (stage_after_reply b own.stage) ≡ true) [
        | true ↦ λ both.
            let these = and_parts (own.to == q) (own.call == call) both in
            let clash : true ≡ false = sym (and_from (q == p) (call == k) (eq-eqb q p (sym (eqb-true own.to q these.0) ∙ parts.1)) (eq-eqb call k (sym (eqb-true own.call call these.1) ∙ parts.0))) ∙ other in
            absurd (cc)
        | false ↦ λ no. sent_still own.stage parts.2
      ] refl in
      awaits_from (call_after_reply q call own) parts.0 parts.1 sent_one

  -- a close of another session leaves it waiting
  other_close : (q : ℕ) (replies : List Message) → (q == p) ≡ false → (own : OwnCall) → awaits_reply p k own ≡ true → awaits_reply p k (call_after_close q replies own) ≡ true
  unfolding call_after_close
  other_close q replies other own awaits =
      let parts = awaits_parts own awaits in
      let to : (own.to == q) ≡ false = ne_eqb own.to q (λ same. eqb-false q p other (sym same ∙ parts.1)) in
      awaits_from (call_after_close q replies own) parts.0 parts.1 (ap (λ (b : Bool). is_sent (cond (b && not (list_any (is_reply_from q own.call) replies)) stages.Ended own.stage)) to ∙ parts.2)

  -- a call of another number is left
  other_left : (j : ℕ) → (j == k) ≡ false → (own : OwnCall) → awaits_reply p k own ≡ true → not (is_call j own) ≡ true
  other_left j other own awaits = ap not (ne_eqb own.call j (λ same. eqb-false j k other (sym same ∙ (awaits_parts own awaits).0)))

  -- while it waits there is no Reply to take
  none_ready : (made : ℕ) (W : Outstanding) (m : Message) → AreAnsweredOnce made W → list_any (awaits_reply p k) W.calls ≡ true → find (λ (message : Message). replies_to k message.item) W.replies ≡ Some m → ⊥
  none_ready made W m all awaits found =
      let asks : is_asked k W ≡ true = any_weaker (awaits_reply p k) (λ (own : OwnCall). is_call k own && is_sent own.stage) (λ own waits. let parts = awaits_parts own waits in and_from (own.call == k) (is_sent own.stage) (eq-eqb own.call k parts.0) parts.2) W.calls awaits in
      let none : replies_in k W ≡ 0 = all.later k asks in
      let some = count_found (λ (message : Message). replies_to k message.item) W.replies m found in
      omega (arith, none, some)

  no_other : (calls : List OwnCall) → AllByRecursion (λ (other : OwnCall). (other.call == k) ≡ false) calls → list_any (awaits_reply p k) calls ≡ true → ⊥
  no_other [] none awaits = cc
  no_other (own ∷ calls) none awaits = by (no_other calls none.1) (awaits_reply p k own) refl awaits
    where
      by : (list_any (awaits_reply p k) calls ≡ true → ⊥) → (b : Bool) → awaits_reply p k own ≡ b → (b || list_any (awaits_reply p k) calls) ≡ true → ⊥
      by rest true waits either = eqb-false own.call k none.0 (awaits_parts own waits).0
      by rest false waits either = rest either

  -- nor is it ended
  none_ended : (calls : List OwnCall) (one : OwnCall) → AreOneEach calls → find (is_call k) calls ≡ Some one → one.stage ≡ stages.Ended → list_any (awaits_reply p k) calls ≡ true → ⊥
  none_ended [] one each found ended awaits = none_some one found
  none_ended (own ∷ calls) one each found ended awaits = by (λ there. none_ended calls one each.1 there ended) (own.call == k) refl found
    where
      own_ended : own ≡ one → (b : Bool) → awaits_reply p k own ≡ b → (own.call == k) ≡ true → (b || list_any (awaits_reply p k) calls) ≡ true → ⊥
      own_ended same true waits number either =
          let up : is_sent own.stage ≡ true = (awaits_parts own waits).2 in
          let gone : is_sent own.stage ≡ false = ap (λ (o : OwnCall). is_sent o.stage) same ∙ ap is_sent ended in
          let clash : true ≡ false = sym up ∙ gone in
          absurd (cc)
      own_ended same false waits number either = no_other calls (subst (λ (j : ℕ). AllByRecursion (λ (other : OwnCall). (other.call == j) ≡ false) calls) (eqb-true own.call k number) each.0) either

      some_own : (x y : OwnCall) → Some x ≡ Some y → x ≡ y
      some_own x y e = cc

      others_wait : (own.call == k) ≡ false → (b : Bool) → awaits_reply p k own ≡ b → (b || list_any (awaits_reply p k) calls) ≡ true → list_any (awaits_reply p k) calls ≡ true
      others_wait other true waits either = absurd (eqb-false own.call k other (awaits_parts own waits).0)
      others_wait other false waits either = either

      by : (find (is_call k) calls ≡ Some one → list_any (awaits_reply p k) calls ≡ true → ⊥) → (b : Bool) → (own.call == k) ≡ b → cond b (Some own) (find (is_call k) calls) ≡ Some one → ⊥
      by rest true number here = own_ended (some_own own one here) (awaits_reply p k own) refl number awaits
      by rest false other there = rest there (others_wait other (awaits_reply p k own) refl awaits)

  -- ---- one deed more

  -- whether Call k to p waits, by the calls outstanding
  abbrev Waits : Outstanding → Type 0
  Waits W = list_any (awaits_reply p k) W.calls ≡ true

  message_waits : (m : Message) (item : Item) (W : Outstanding) → ((call status : ℕ) (value : Value) → item ≡ items.Reply call status value → (m.from == p && call == k) ≡ false) → Waits W → Waits (after_message m item W)
  unfolding after_message
  message_waits m (items.Call call target method value) W other waits = elim (is_none_of m.copies) as (λ b. Waits (if b then make_ready m W else wait m W)) [ true ↦ waits | false ↦ waits ]
  message_waits m (items.Reply call status value) W other waits =
      elim (is_none_of m.copies) as (λ b. Waits (with_calls (call_after_reply m.from call) (if b then make_reply m W else wait m W))) [
        | true ↦ any_mapped (awaits_reply p k) (awaits_reply p k) (call_after_reply m.from call) (other_reply m.from call (other call status value refl)) W.calls waits
        | false ↦ any_mapped (awaits_reply p k) (awaits_reply p k) (call_after_reply m.from call) (other_reply m.from call (other call status value refl)) W.calls waits
      ]
  message_waits m (items.Settle item) W other waits = waits
  message_waits m (items.Dirty index) W other waits = waits
  message_waits m (items.DirtyOk index) W other waits = waits
  message_waits m (items.DirtyNo index) W other waits = waits
  message_waits m (items.Clean index) W other waits = waits

  act_waits : (s n q j : ℕ) (D : List Deed) (found : Option Item) (W : Outstanding) → ((call status : ℕ) (value : Value) → found ≡ Some (items.Reply call status value) → (q == p && call == k) ≡ false) → Waits W → Waits (after_act s n q j D found W)
  unfolding after_act
  act_waits s n q j D None W other waits = waits
  act_waits s n q j D (Some item) W other waits = message_waits (new_message s n q j item (did.Act q j ∷ D)) item W (λ call status value is. other call status value (ap Some is)) waits

  settlement_waits : (m : Message) (item : Item) (lost : Bool) (W : Outstanding) → Waits W → Waits (after_settlement m item lost W)
  unfolding after_settlement
  settlement_waits m (items.Call call target method value) true W waits = waits
  settlement_waits m (items.Call call target method value) false W waits = waits
  settlement_waits m (items.Reply call status value) true W waits = waits
  settlement_waits m (items.Reply call status value) false W waits = waits
  settlement_waits m (_) lost W waits = waits

  settle_waits : (s n q j : ℕ) (D : List Deed) (found : Option Message) (W : Outstanding) → Waits W → Waits (after_settle s n q j D found W)
  unfolding after_settle
  settle_waits s n q j D None W waits = waits
  settle_waits s n q j D (Some m) W waits = settlement_waits m m.item (is_lost_message s n D m) (without_waiting q j W) waits

  claim_waits : (job : Job) (found : Option Message) (W : Outstanding) → Waits W → Waits (after_claim job found W)
  unfolding after_claim
  claim_waits job None W waits = waits
  claim_waits job (Some m) W waits = waits

  -- an answered call, with what is outstanding by a deed, the loans aside
  abbrev AnsweredBy : (s n : ℕ) → Deed → List Deed → Type 0
  AnsweredBy s n deed D = (closed p (deed ∷ D) ≡ true) ⊎ ((1 ≤ count_of (replies_to k) (items_among (acted p (deed ∷ D)))) ⊎ Waits (work_after s n deed D (work s n D)))

  reply_answers : (s n q j call status : ℕ) (value : Value) (D : List Deed) → item_at q j D ≡ Some (items.Reply call status value) → (b : Bool) → (q == p && call == k) ≡ b → Waits (work s n D) → AnsweredBy s n (did.Act q j) D
  unfolding work_after
  reply_answers s n q j call status value D is true both waits = let parts = and_parts (q == p) (call == k) both in inr (inl (replied_now q j call status value D (eqb-true q p parts.0) (eqb-true call k parts.1) is))
  reply_answers s n q j call status value D is false other waits =
      inr (inr (act_waits s n q j D (item_at q j D) (work s n D) (λ other_call other_status other_value found. ap (λ (c : ℕ). q == p && c == k) (same_call other_call other_status other_value (sym found ∙ is)) ∙ other) waits))
    where
      same_call : (c st : ℕ) (v : Value) → Some (items.Reply c st v) ≡ Some (items.Reply call status value) → c ≡ call
      same_call c st v e = cc

  act_answers : (s n q j : ℕ) (D : List Deed) (found : Option Item) → item_at q j D ≡ found → Waits (work s n D) → AnsweredBy s n (did.Act q j) D
  unfolding work_after
  act_answers s n q j D (Some (items.Reply call status value)) is waits = reply_answers s n q j call status value D is (q == p && call == k) refl waits
  act_answers s n q j D None is waits = inr (inr (act_waits s n q j D (item_at q j D) (work s n D) (λ c st v found. absurd (none_some (items.Reply c st v) (sym is ∙ found))) waits))
  act_answers s n q j D (Some (items.Call call target method value)) is waits = inr (inr (act_waits s n q j D (item_at q j D) (work s n D) (λ c st v found. absurd (let clash : Some (items.Call call target method value) ≡ Some (items.Reply c st v) = sym is ∙ found in cc)) waits))
  act_answers s n q j D (Some (items.Settle item)) is waits = inr (inr (act_waits s n q j D (item_at q j D) (work s n D) (λ c st v found. absurd (let clash : Some (items.Settle item) ≡ Some (items.Reply c st v) = sym is ∙ found in cc)) waits))
  act_answers s n q j D (Some (items.Dirty index)) is waits = inr (inr (act_waits s n q j D (item_at q j D) (work s n D) (λ c st v found. absurd (let clash : Some (items.Dirty index) ≡ Some (items.Reply c st v) = sym is ∙ found in cc)) waits))
  act_answers s n q j D (Some (items.DirtyOk index)) is waits = inr (inr (act_waits s n q j D (item_at q j D) (work s n D) (λ c st v found. absurd (let clash : Some (items.DirtyOk index) ≡ Some (items.Reply c st v) = sym is ∙ found in cc)) waits))
  act_answers s n q j D (Some (items.DirtyNo index)) is waits = inr (inr (act_waits s n q j D (item_at q j D) (work s n D) (λ c st v found. absurd (let clash : Some (items.DirtyNo index) ≡ Some (items.Reply c st v) = sym is ∙ found in cc)) waits))
  act_answers s n q j D (Some (items.Clean index)) is waits = inr (inr (act_waits s n q j D (item_at q j D) (work s n D) (λ c st v found. absurd (let clash : Some (items.Clean index) ≡ Some (items.Reply c st v) = sym is ∙ found in cc)) waits))

  close_answers : (s n q : ℕ) (D : List Deed) (b : Bool) → (q == p) ≡ b → Waits (work s n D) → ((b || closed p D) ≡ true) ⊎ Waits (after_close q (work s n D))
  unfolding after_close
  close_answers s n q D true same waits = inl refl
  close_answers s n q D false other waits = inr (any_mapped (awaits_reply p k) (awaits_reply p k) (call_after_close q (work s n D).replies) (other_close q (work s n D).replies other) (work s n D).calls waits)

  take_waits : (s n : ℕ) (limits : Limits) (j status : ℕ) (value : Value) (D : List Deed) → AreRightDeeds s n limits (did.TakeReply j status value ∷ D) → Waits (work s n D) → (b : Bool) → (j == k) ≡ b → Waits (after_take j (work s n D))
  unfolding after_take right_after
  take_waits s n limits j status value D right waits true same =
      let told = take_tells j status value (history_of s n D) (was_answered s n limits (did.TakeReply j status value) D right.0) in
      absurd (none_ready (calls_made D) (work s n D) told.1 (answered_once s n limits D right.1) waits (subst (λ (i : ℕ). find (λ (message : Message). replies_to i message.item) (work s n D).replies ≡ Some told.1) (eqb-true j k same) told.4))
  take_waits s n limits j status value D right waits false other = any_kept (awaits_reply p k) (λ (own : OwnCall). not (is_call j own)) (other_left j other) (work s n D).calls waits

  end_waits : (s n : ℕ) (limits : Limits) (j : ℕ) (D : List Deed) → AreRightDeeds s n limits (did.TakeEnd j ∷ D) → Waits (work s n D) → (b : Bool) → (j == k) ≡ b → Waits (after_end j (work s n D))
  unfolding after_end right_after
  end_waits s n limits j D right waits true same =
      let told = take_end_tells j (history_of s n D) (was_answered s n limits (did.TakeEnd j) D right.0) in
      absurd (none_ended (work s n D).calls told.0 (answered_once s n limits D right.1).each (subst (λ (i : ℕ). find (is_call i) (work s n D).calls ≡ Some told.0) (eqb-true j k same) told.1) told.3 waits)
  end_waits s n limits j D right waits false other = any_kept (awaits_reply p k) (λ (own : OwnCall). not (is_call j own)) (other_left j other) (work s n D).calls waits

  closed_or : (s n : ℕ) (deed : Deed) (D : List Deed) → (closed p (deed ∷ D) ≡ true) ⊎ Waits (work_after s n deed D (work s n D)) → AnsweredBy s n deed D
  closed_or s n deed D (inl shut) = inl shut
  closed_or s n deed D (inr waits) = inr (inr waits)

  -- a call that waits is answered, ended by its session, or waits
  deed_answers : (s n : ℕ) (limits : Limits) (deed : Deed) (D : List Deed) → AreRightDeeds s n limits (deed ∷ D) → Waits (work s n D) → AnsweredBy s n deed D
  unfolding work_after after_finish after_call
  deed_answers s n limits (did.Call target method value call) D right waits = inr (inr (any_before (awaits_reply p k) (work s n D).calls (record { call = call; to = target.owner; stage = stages.Sent } ∷ []) waits))
  deed_answers s n limits (did.TakeReply j status value) D right waits = inr (inr (take_waits s n limits j status value D right waits (j == k) refl))
  deed_answers s n limits (did.TakeEnd j) D right waits = inr (inr (end_waits s n limits j D right waits (j == k) refl))
  deed_answers s n limits (did.Claim job) D right waits = inr (inr (claim_waits job (find (is_job job) (work s n D).ready) (work s n D) waits))
  deed_answers s n limits (did.Act q j) D right waits = act_answers s n q j D (item_at q j D) refl waits
  deed_answers s n limits (did.Settle q j) D right waits = inr (inr (settle_waits s n q j D (find (is_of q j) (work s n D).waiting) (work s n D) waits))
  deed_answers s n limits (did.Closing q reason cause) D right waits = closed_or s n (did.Closing q reason cause) D (close_answers s n q D (q == p) refl waits)
  deed_answers s n limits deed D right waits = inr (inr waits)

  -- loans change no call
  loans_answer : (s n : ℕ) (deed : Deed) (D : List Deed) → AnsweredBy s n deed D → IsAnswered s n (deed ∷ D)
  unfolding with_loans
  loans_answer s n deed D answered = answered

  still_answered : (s n : ℕ) (limits : Limits) (deed : Deed) (D : List Deed) → opens p deed ≡ false → AreRightDeeds s n limits (deed ∷ D) → IsAnswered s n D → IsAnswered s n (deed ∷ D)
  still_answered s n limits deed D kept right (inl shut) = inl (closed_kept p deed D kept shut)
  still_answered s n limits deed D kept right (inr (inl some)) = inr (inl (replied_still deed D kept some))
  still_answered s n limits deed D kept right (inr (inr waits)) = loans_answer s n deed D (deed_answers s n limits deed D right waits)

  one_some : (b : Bool) → 1 ≤ one_if b → b ≡ true
  one_some true some = refl
  one_some false some = absurd (omega (arith, some))

  -- a call that is made waits
  new_answered : (s n : ℕ) (deed : Deed) (D : List Deed) → 1 ≤ calls_so deed → IsAnswered s n (deed ∷ D)
  unfolding work_after after_call with_loans
  new_answered s n (did.Call target method value call) D some =
      let parts = and_parts (target.owner == p) (call == k) (one_some (target.owner == p && call == k) some) in
      inr (inr (any_last (awaits_reply p k) (work s n D).calls (record { call = call; to = target.owner; stage = stages.Sent }) (and_from _ _ (and_from _ _ parts.1 parts.0) refl)))
  new_answered s n deed D some = absurd (omega (arith, some))

  -- a Call that was sent in the present session has its Reply acted on, or waits for one, unless the session has closed
  pub all_answered : (s n : ℕ) (limits : Limits) (D : List Deed) → AreRightDeeds s n limits D → 1 ≤ calls_now s n D → IsAnswered s n D
  all_answered s n limits [] right some = absurd (omega (arith, some))
  all_answered s n limits (deed ∷ D) right some = by (opens p deed) refl (all_answered s n limits D right.1)
    where
      by : (b : Bool) → opens p deed ≡ b → (1 ≤ calls_now s n D → IsAnswered s n D) → IsAnswered s n (deed ∷ D)
      by true own before =
          let none = ap (count_of (makes_call k)) (none_sent_new s n p limits deed D right (opens_above s n p limits deed D right.0 own)) in
          absurd (omega (arith, some, none))
      by false kept before =
          let more = now_more s n deed D (number_kept p deed D kept) in
          elim (nat_le 1 (calls_now s n D)) as (λ b. nat_le 1 (calls_now s n D) ≡ b → IsAnswered s n (deed ∷ D)) [
            | true ↦ λ earlier. still_answered s n limits deed D kept right (before (leb-true 1 (calls_now s n D) earlier))
            | false ↦ λ none. (let few = leb-false 1 (calls_now s n D) none in new_answered s n deed D (omega (arith, some, more, few)))
          ] refl
