-- In every list of right deeds calls and replies match: a call whose session has closed here is over or has a ready reply,
-- and each reply that is outstanding is to a call that is.
use Rattle.std.proofs.Common.{◌≡◌, ℕ, ◌&&◌, ◌||◌, not, Bool, true, false, cond, List, [], ◌∷◌, ◌++◌, map, filter, find, Option, Some, None, if◌then◌else◌, refl, sym, ap, subst, ◌∙◌, ◌⊎◌, inl, inr}
use Rattle.std.specs.Prelude.{◌==◌}
use Rattle.std.specs.List.{AllByRecursion, list_any}
use Rattle.std.proofs.lemmas.Bool.{eqb-true, eqb-false, eq-eqb, ne_eqb, and_from, and_parts, both_ways, not-false, not-true, not_from_false, false_from_ne_true}
use Rattle.nob_ids.specs.declared.limits.Limits.{Limits}
use Rattle.nob_ids.specs.declared.reason.Reason.{Reason}
use Rattle.nob_ids.specs.declared.reason.Reason.TheVariants.{OutOfPlace, BadReference}
use Rattle.nob_ids.specs.declared.wire_rep.WireRep.{WireRep}
use Rattle.nob_pickle.specs.declared.value.Value.{Value}
use Rattle.nob_item.specs.declared.item.Item.{Item}
use Rattle.nob_item.specs.declared.item.Item.TheVariants as items
use Rattle.nob_model_types.specs.declared.answer.Job.{Job}
use Rattle.nob_model_types.specs.declared.deed.Deed.{Deed}
use Rattle.nob_model_types.specs.declared.deed.Deed.TheVariants as did
use Rattle.nob_model_types.specs.declared.message.Message.{Message}
use Rattle.nob_model_types.specs.Sessions.{is_peer, closed, item_at}
use Rattle.nob_model_types.specs.Messages.{new_message, message_after, is_of, is_not_from, replies_to, is_job, is_lost_message}
use Rattle.nob_model_work.specs.declared.work.Outstanding.{Outstanding}
use Rattle.nob_model_work.specs.declared.work.OwnCall.{OwnCall}
use Rattle.nob_model_work.specs.declared.work.Stage.{Stage}
use Rattle.nob_model_work.specs.declared.work.Stage.TheVariants as stages
use Rattle.nob_model_work.specs.Work.{wait, make_ready, make_reply, with_calls, stage_after_reply, call_after_reply, call_after_close, is_reply_from, is_none_of, lost_reply, is_call, is_not_reply, work, work_after, with_loans, after_message, after_act, after_settlement, after_settle, after_claim, without_waiting, after_finish, after_take, after_end, after_call, after_close}
use Rattle.nob_model_history.specs.Histories.{history_of}
use Rattle.nob_model_acting.specs.Acting.{is_sent, awaits_reply, fault_of, fault_if, first_fault, names_not_live}
use Rattle.nob_model.specs.Right.{right_after}
use Rattle.nob_model.specs.Lists.{IsRightDeed, AreRightDeeds}
use Rattle.nob_model.proofs.Accepted.{call_tells, take_end_tells}
use Rattle.nob_model.proofs.Carrying.{all_push, all_filter, all_without, all_found}
use Rattle.nob_model.proofs.Doing.{was_answered}
use Rattle.nob_model.proofs.Premises.{in_turn, item_acted, no_fault}
use Rattle.nob_model.proofs.Replying.{AreOneEach, answered_once}
use Rattle.nob_model.proofs.Waiting.{all_weaker}
use Rattle.nob_model_holdings.proofs.Lists.{all_map, all_both}
use Rattle.nob_model_lives.proofs.Anys.{any_mapped, any_weaker, any_filter, any_push, all_filtered, none_found}

-- whether a Reply to a call was acted on and the call isn't over
abbrev pub is_answered : Stage → Bool
is_answered stages.Sent = false
is_answered stages.Answered = true
is_answered stages.Ended = false

-- whether this is call k to p, answered
abbrev pub waits_for : (k p : ℕ) → OwnCall → Bool
waits_for k p own = is_call k own && (own.to == p && is_answered own.stage)

-- a call is over, or a Reply to it is ready
abbrev pub IsOver : OwnCall → List Message → Type 0
IsOver own replies = (own.stage ≡ stages.Ended) ⊎ (list_any (λ m. replies_to own.call m.item) replies ≡ true)

-- an item is the Reply to one of these calls
abbrev pub HasCall : List OwnCall → Item → Type 0
HasCall calls item = (k : ℕ) × (replies_to k item ≡ true) × (list_any (is_call k) calls ≡ true)

-- a message that waits, if it is the Reply to a call, is so to an answered one of its sender
abbrev pub WaitsFor : List OwnCall → Message → Type 0
WaitsFor calls m = (k : ℕ) → replies_to k m.item ≡ true → list_any (waits_for k m.from) calls ≡ true

-- calls and replies match, by which sessions have closed
pub record AreMatched (s n : ℕ) (shut : ℕ → Bool) (W : Outstanding) : Type 0 where
  pub to_peers : AllByRecursion (λ (own : OwnCall). is_peer s n own.to ≡ true) W.calls
  pub over : AllByRecursion (λ (own : OwnCall). shut own.to ≡ true → IsOver own W.replies) W.calls
  pub waits : AllByRecursion (WaitsFor W.calls) W.waiting
  pub replies : AllByRecursion (λ (m : Message). HasCall W.calls m.item) W.replies

-- ---- items

-- an item is the Reply to one call at most
one_call : (j k : ℕ) (item : Item) → replies_to j item ≡ true → replies_to k item ≡ true → j ≡ k
one_call j k (items.Reply call status value) first second = sym (eqb-true call j first) ∙ eqb-true call k second
one_call j k (items.Call call target method value) first second = cc
one_call j k (items.Settle item) first second = cc
one_call j k (items.Dirty index) first second = cc
one_call j k (items.DirtyOk index) first second = cc
one_call j k (items.DirtyNo index) first second = cc
one_call j k (items.Clean index) first second = cc

-- the Reply to another call is none to this one
not_reply : (j k : ℕ) (item : Item) → replies_to j item ≡ true → (j ≡ k → ⊥) → not (replies_to k item) ≡ true
not_reply j k item is other = not_from_false (replies_to k item) (false_from_ne_true (replies_to k item) (λ both. other (one_call j k item is both)))

-- what is no Reply to this call and one to another
other_call : (j k : ℕ) (item : Item) → not (replies_to k item) ≡ true → replies_to j item ≡ true → j ≡ k → ⊥
other_call j k item none is same = both_ways (replies_to k item) (not-true (replies_to k item) none) (subst (λ (i : ℕ). replies_to i item ≡ true) same is)

not_call : (j k call : ℕ) → (call == j) ≡ true → (j ≡ k → ⊥) → not (call == k) ≡ true
not_call j k call is other = not_from_false (call == k) (ne_eqb call k (λ same. other (sym (eqb-true call j is) ∙ same)))

-- ---- calls made and taken

module _ (s n : ℕ) (shut : ℕ → Bool) where
  call_matched : (p k : ℕ) (W : Outstanding) → is_peer s n p ≡ true → shut p ≡ false → AreMatched s n shut W → AreMatched s n shut (after_call p k W)
  unfolding after_call
  call_matched p k W peer up its =
      let own : OwnCall = record { call = k; to = p; stage = stages.Sent } in
      record {
        to_peers = all_push (λ (o : OwnCall). is_peer s n o.to ≡ true) W.calls own its.to_peers peer;
        over = all_push (λ (o : OwnCall). shut o.to ≡ true → IsOver o W.replies) W.calls own its.over (λ closes. absurd (both_ways (shut p) up closes));
        waits = all_weaker (WaitsFor W.calls) (WaitsFor (W.calls ++ own ∷ [])) (λ m waits j is. any_push (waits_for j m.from) W.calls own (waits j is)) W.waiting its.waits;
        replies = all_weaker (λ (m : Message). HasCall W.calls m.item) (λ (m : Message). HasCall (W.calls ++ own ∷ []) m.item) (λ m has. (has.0, has.1, any_push (is_call has.0) W.calls own has.2)) W.replies its.replies;
      }

  -- without a call, what isn't a Reply to it still has its own
  waits_without : (k : ℕ) (calls : List OwnCall) (m : Message) → not (replies_to k m.item) ≡ true → WaitsFor calls m → WaitsFor (filter (λ own. not (is_call k own)) calls) m
  waits_without k calls m other waits = λ j is. any_filter (waits_for j m.from) (λ own. not (is_call k own)) (λ own passes. not_call j k own.call (and_parts (own.call == j) _ passes).0 (other_call j k m.item other is)) calls (waits j is)

  has_without : (k : ℕ) (calls : List OwnCall) (item : Item) → not (replies_to k item) ≡ true → HasCall calls item → HasCall (filter (λ own. not (is_call k own)) calls) item
  has_without k calls item other has = (has.0, has.1, any_filter (is_call has.0) (λ own. not (is_call k own)) (λ own passes. not_call has.0 k own.call passes (other_call has.0 k item other has.1)) calls has.2)

  over_without : (k : ℕ) (own : OwnCall) (replies : List Message) → not (is_call k own) ≡ true → IsOver own replies → IsOver own (filter (is_not_reply k) replies)
  over_without k own replies other (inl ended) = inl ended
  over_without k own replies other (inr some) = inr (any_filter (λ m. replies_to own.call m.item) (is_not_reply k) (λ m is. not_reply own.call k m.item is (eqb-false own.call k (not-true (own.call == k) other))) replies some)

  take_matched : (k : ℕ) (W : Outstanding) → AreMatched s n shut W → AreMatched s n shut (after_take k W)
  unfolding after_take
  take_matched k W its = record {
    to_peers = all_filter (λ (own : OwnCall). is_peer s n own.to ≡ true) (λ own. not (is_call k own)) W.calls its.to_peers;
    over = all_filtered (λ (own : OwnCall). shut own.to ≡ true → IsOver own (filter (is_not_reply k) W.replies)) (λ own. not (is_call k own)) W.calls
        (all_weaker (λ (own : OwnCall). shut own.to ≡ true → IsOver own W.replies) (λ (own : OwnCall). not (is_call k own) ≡ true → shut own.to ≡ true → IsOver own (filter (is_not_reply k) W.replies)) (λ own over other closes. over_without k own W.replies other (over closes)) W.calls its.over);
    waits = all_filtered (WaitsFor (filter (λ own. not (is_call k own)) W.calls)) (is_not_reply k) W.waiting
        (all_weaker (WaitsFor W.calls) (λ (m : Message). is_not_reply k m ≡ true → WaitsFor (filter (λ own. not (is_call k own)) W.calls) m) (λ m waits other. waits_without k W.calls m other waits) W.waiting its.waits);
    replies = all_filtered (λ (m : Message). HasCall (filter (λ own. not (is_call k own)) W.calls) m.item) (is_not_reply k) W.replies
        (all_weaker (λ (m : Message). HasCall W.calls m.item) (λ (m : Message). is_not_reply k m ≡ true → HasCall (filter (λ own. not (is_call k own)) W.calls) m.item) (λ m has other. has_without k W.calls m.item other has) W.replies its.replies);
  }

  -- a call that is over without a reply: no message is a Reply to it
  end_matched : (k : ℕ) (W : Outstanding) → AllByRecursion (λ (m : Message). not (replies_to k m.item) ≡ true) W.waiting → AllByRecursion (λ (m : Message). not (replies_to k m.item) ≡ true) W.replies → AreMatched s n shut W → AreMatched s n shut (after_end k W)
  unfolding after_end
  end_matched k W waiting replies its = record {
    to_peers = all_filter (λ (own : OwnCall). is_peer s n own.to ≡ true) (λ own. not (is_call k own)) W.calls its.to_peers;
    over = all_filter (λ (own : OwnCall). shut own.to ≡ true → IsOver own W.replies) (λ own. not (is_call k own)) W.calls its.over;
    waits = all_both (λ (m : Message). not (replies_to k m.item) ≡ true) (WaitsFor W.calls) (WaitsFor (filter (λ own. not (is_call k own)) W.calls)) (λ m other waits. waits_without k W.calls m other waits) W.waiting waiting its.waits;
    replies = all_both (λ (m : Message). not (replies_to k m.item) ≡ true) (λ (m : Message). HasCall W.calls m.item) (λ (m : Message). HasCall (filter (λ own. not (is_call k own)) W.calls) m.item) (λ m other has. has_without k W.calls m.item other has) W.replies replies its.replies;
  }

-- ---- one call of a number

none_of : (k : ℕ) (test : OwnCall → Bool) (calls : List OwnCall) → AllByRecursion (λ (other : OwnCall). (other.call == k) ≡ false) calls → list_any (λ own. is_call k own && test own) calls ≡ true → ⊥
none_of k test [] all is = cc
none_of k test (own ∷ calls) all is = step (own.call == k) (test own) (list_any (λ o. is_call k o && test o) calls) all.0 (none_of k test calls all.1) is
  where
    step : (a b rest : Bool) → a ≡ false → (rest ≡ true → ⊥) → ((a && b) || rest) ≡ true → ⊥
    step true b rest none before is = cc
    step false b rest none before is = before is

first_or : (a b : Bool) → (b ≡ true → ⊥) → (a || b) ≡ true → a ≡ true
first_or true b none is = refl
first_or false b none is = absurd (none is)

some_same : {A : Type 0} (x y : A) → Some x ≡ Some y → x ≡ y
some_same x y e = cc

nothing : {A : Type 0} (x : A) → None ≡ Some x → ⊥
nothing x e = cc

only_step : (k : ℕ) (test : OwnCall → Bool) (first own : OwnCall) (calls : List OwnCall) → AllByRecursion (λ (other : OwnCall). (other.call == first.call) ≡ false) calls → (find (is_call k) calls ≡ Some own → list_any (λ o. is_call k o && test o) calls ≡ true → test own ≡ true) → (b : Bool) → is_call k first ≡ b → cond b (Some first) (find (is_call k) calls) ≡ Some own → ((b && test first) || list_any (λ o. is_call k o && test o) calls) ≡ true → test own ≡ true
only_step k test first own calls others rest true is found some =
    let other : AllByRecursion (λ (o : OwnCall). (o.call == k) ≡ false) calls = subst (λ (i : ℕ). AllByRecursion (λ (o : OwnCall). (o.call == i) ≡ false) calls) (eqb-true first.call k is) others in
    ap test (sym (some_same first own found)) ∙ first_or (test first) (list_any (λ o. is_call k o && test o) calls) (none_of k test calls other) some
only_step k test first own calls others rest false is found some = rest found some

-- what passes of call k is the call that is found
only_one : (k : ℕ) (test : OwnCall → Bool) (own : OwnCall) (calls : List OwnCall) → AreOneEach calls → find (is_call k) calls ≡ Some own → list_any (λ o. is_call k o && test o) calls ≡ true → test own ≡ true
only_one k test own [] each found some = absurd (nothing own found)
only_one k test own (first ∷ calls) each found some = only_step k test first own calls each.0 (only_one k test own calls each.1) (is_call k first) refl found some

-- ---- messages

answered_still : (b : Bool) (stage : Stage) → is_answered stage ≡ true → is_answered (stage_after_reply b stage) ≡ true
answered_still b stages.Answered is = refl
answered_still b stages.Sent is = cc
answered_still b stages.Ended is = cc

ended_still : (b : Bool) (stage : Stage) → stage ≡ stages.Ended → stage_after_reply b stage ≡ stages.Ended
ended_still b stage is = ap (stage_after_reply b) is

answers_sent : (b : Bool) (stage : Stage) → b ≡ true → is_sent stage ≡ true → is_answered (stage_after_reply b stage) ≡ true
answers_sent true stages.Sent is sent = refl
answers_sent false stages.Sent is sent = cc
answers_sent b stages.Answered is sent = cc
answers_sent b stages.Ended is sent = cc

module _ (s n : ℕ) (shut : ℕ → Bool) where
  over_push : (own : OwnCall) (replies : List Message) (m : Message) → IsOver own replies → IsOver own (replies ++ m ∷ [])
  over_push own replies m (inl ended) = inl ended
  over_push own replies m (inr some) = inr (any_push (λ (o : Message). replies_to own.call o.item) replies m some)

  ready_matched : (m : Message) (W : Outstanding) → AreMatched s n shut W → AreMatched s n shut (make_ready m W)
  ready_matched m W its = record { to_peers = its.to_peers; over = its.over; waits = its.waits; replies = its.replies }

  wait_matched : (m : Message) (W : Outstanding) → WaitsFor W.calls m → AreMatched s n shut W → AreMatched s n shut (wait m W)
  wait_matched m W waits its = record { to_peers = its.to_peers; over = its.over; waits = all_push (WaitsFor W.calls) W.waiting m its.waits waits; replies = its.replies }

  reply_matched : (m : Message) (W : Outstanding) → HasCall W.calls m.item → AreMatched s n shut W → AreMatched s n shut (make_reply m W)
  reply_matched m W has its = record {
    to_peers = its.to_peers;
    over = all_weaker (λ (own : OwnCall). shut own.to ≡ true → IsOver own W.replies) (λ (own : OwnCall). shut own.to ≡ true → IsOver own (W.replies ++ m ∷ [])) (λ own over closes. over_push own W.replies m (over closes)) W.calls its.over;
    waits = its.waits;
    replies = all_push (λ (o : Message). HasCall W.calls o.item) W.replies m its.replies has;
  }

  -- the calls after a Reply to one of them
  waits_answered : (p k : ℕ) (calls : List OwnCall) (m : Message) → WaitsFor calls m → WaitsFor (map (call_after_reply p k) calls) m
  unfolding call_after_reply
  waits_answered p k calls m waits = λ j is.
      any_mapped (waits_for j m.from) (waits_for j m.from) (call_after_reply p k)
      (λ own passes. let parts = and_parts (own.call == j) (own.to == m.from && is_answered own.stage) passes in let more = and_parts (own.to == m.from) (is_answered own.stage) parts.1 in
      and_from (own.call == j) _ parts.0 (and_from (own.to == m.from) _ more.0 (answered_still (own.to == p && own.call == k) own.stage more.1))) calls (waits j is)

  has_answered : (p k : ℕ) (calls : List OwnCall) (item : Item) → HasCall calls item → HasCall (map (call_after_reply p k) calls) item
  unfolding call_after_reply
  has_answered p k calls item has = (has.0, has.1, any_mapped (is_call has.0) (is_call has.0) (call_after_reply p k) (λ own passes. passes) calls has.2)

  over_answered : (p k : ℕ) (own : OwnCall) (replies : List Message) → IsOver own replies → IsOver (call_after_reply p k own) replies
  unfolding call_after_reply
  over_answered p k own replies (inl ended) = inl (ended_still (own.to == p && own.call == k) own.stage ended)
  over_answered p k own replies (inr some) = inr some

  answered_matched : (p k : ℕ) (W : Outstanding) → AreMatched s n shut W → AreMatched s n shut (with_calls (call_after_reply p k) W)
  unfolding call_after_reply
  answered_matched p k W its = record {
    to_peers = all_map (λ (own : OwnCall). is_peer s n own.to ≡ true) (λ (own : OwnCall). is_peer s n own.to ≡ true) (call_after_reply p k) (λ own peer. peer) W.calls its.to_peers;
    over = all_map (λ (own : OwnCall). shut own.to ≡ true → IsOver own W.replies) (λ (own : OwnCall). shut own.to ≡ true → IsOver own W.replies) (call_after_reply p k) (λ own over closes. over_answered p k own W.replies (over closes)) W.calls its.over;
    waits = all_weaker (WaitsFor W.calls) (WaitsFor (map (call_after_reply p k) W.calls)) (waits_answered p k W.calls) W.waiting its.waits;
    replies = all_weaker (λ (m : Message). HasCall W.calls m.item) (λ (m : Message). HasCall (map (call_after_reply p k) W.calls) m.item) (λ m has. has_answered p k W.calls m.item has) W.replies its.replies;
  }

  -- a call that awaits its Reply is answered by it
  now_answered : (p k : ℕ) (calls : List OwnCall) → list_any (awaits_reply p k) calls ≡ true → list_any (waits_for k p) (map (call_after_reply p k) calls) ≡ true
  unfolding call_after_reply
  now_answered p k calls awaits =
      any_mapped (awaits_reply p k) (waits_for k p) (call_after_reply p k)
      (λ own passes. let parts = and_parts (own.call == k && own.to == p) (is_sent own.stage) passes in let own_is = and_parts (own.call == k) (own.to == p) parts.0 in
      and_from (own.call == k) _ own_is.0 (and_from (own.to == p) _ own_is.1 (answers_sent (own.to == p && own.call == k) own.stage (and_from (own.to == p) (own.call == k) own_is.1 own_is.0) parts.1))) calls awaits

  calls_still : (p k : ℕ) (calls : List OwnCall) → list_any (waits_for k p) calls ≡ true → list_any (is_call k) calls ≡ true
  calls_still p k calls waits = any_weaker (waits_for k p) (is_call k) (λ own passes. (and_parts (own.call == k) _ passes).0) calls waits

  -- a message that was acted on
  message_matched : (m : Message) (item : Item) (W : Outstanding) → m.item ≡ item → ((k : ℕ) → replies_to k item ≡ true → list_any (awaits_reply m.from k) W.calls ≡ true) → AreMatched s n shut W → AreMatched s n shut (after_message m item W)
  unfolding after_message
  message_matched m (items.Call call target method value) W is awaits its =
      elim (is_none_of m.copies) as (λ b. AreMatched s n shut (if b then make_ready m W else wait m W)) [
        | true ↦ ready_matched m W its
        | false ↦ wait_matched m W (λ k replies. absurd (let clash : false ≡ true = ap (replies_to k) (sym is) ∙ replies in cc)) its
      ]
  message_matched m (items.Reply call status value) W is awaits its =
      let asked : list_any (awaits_reply m.from call) W.calls ≡ true = awaits call (eq-eqb call call refl) in
      let same : (k : ℕ) → replies_to k m.item ≡ true → call ≡ k = λ k replies. eqb-true call k (ap (replies_to k) (sym is) ∙ replies) in
      elim (is_none_of m.copies) as (λ b. AreMatched s n shut (with_calls (call_after_reply m.from call) (if b then make_reply m W else wait m W))) [
        | true ↦ answered_matched m.from call (make_reply m W) (reply_matched m W (call, ap (replies_to call) is ∙ eq-eqb call call refl, any_weaker (awaits_reply m.from call) (is_call call) (λ own passes. (and_parts (own.call == call) (own.to == m.from) (and_parts (own.call == call && own.to == m.from) (is_sent own.stage) passes).0).0) W.calls asked) its)
        | false ↦ wait_matched m (with_calls (call_after_reply m.from call) W) (λ k replies. subst (λ (j : ℕ). list_any (waits_for j m.from) (map (call_after_reply m.from call) W.calls) ≡ true) (same k replies) (now_answered m.from call W.calls asked)) (answered_matched m.from call W its)
      ]
  message_matched m (items.Settle item) W is awaits its = its
  message_matched m (items.Dirty index) W is awaits its = its
  message_matched m (items.DirtyOk index) W is awaits its = its
  message_matched m (items.DirtyNo index) W is awaits its = its
  message_matched m (items.Clean index) W is awaits its = its

  act_matched : (p k : ℕ) (D : List Deed) (found : Option Item) (W : Outstanding) → ((item : Item) → found ≡ Some item → (j : ℕ) → replies_to j item ≡ true → list_any (awaits_reply p j) W.calls ≡ true) → AreMatched s n shut W → AreMatched s n shut (after_act s n p k D found W)
  unfolding after_act
  act_matched p k D None W awaits its = its
  act_matched p k D (Some item) W awaits its = message_matched (new_message s n p k item (did.Act p k ∷ D)) item W refl (awaits item refl) its

  -- ---- settled messages

  waiting_matched : (p k : ℕ) (W : Outstanding) → AreMatched s n shut W → AreMatched s n shut (without_waiting p k W)
  waiting_matched p k W its = record { to_peers = its.to_peers; over = its.over; waits = all_without (WaitsFor W.calls) (is_of p k) W.waiting its.waits; replies = its.replies }

  settled_matched : (m : Message) (item : Item) (lost : Bool) (W : Outstanding) → m.item ≡ item → WaitsFor W.calls m → AreMatched s n shut W → AreMatched s n shut (after_settlement m item lost W)
  unfolding after_settlement
  settled_matched m (items.Call call target method value) true W is waits its = its
  settled_matched m (items.Call call target method value) false W is waits its = ready_matched m W its
  settled_matched m (items.Reply call status value) true W is waits its = reply_matched (lost_reply m call) W (call, eq-eqb call call refl, calls_still m.from call W.calls (waits call (ap (replies_to call) is ∙ eq-eqb call call refl))) its
  settled_matched m (items.Reply call status value) false W is waits its = reply_matched m W (call, ap (replies_to call) is ∙ eq-eqb call call refl, calls_still m.from call W.calls (waits call (ap (replies_to call) is ∙ eq-eqb call call refl))) its
  settled_matched m (items.Settle item) lost W is waits its = its
  settled_matched m (items.Dirty index) lost W is waits its = its
  settled_matched m (items.DirtyOk index) lost W is waits its = its
  settled_matched m (items.DirtyNo index) lost W is waits its = its
  settled_matched m (items.Clean index) lost W is waits its = its

  settle_matched : (p k : ℕ) (D : List Deed) (found : Option Message) (W : Outstanding) → find (is_of p k) W.waiting ≡ found → AreMatched s n shut W → AreMatched s n shut (after_settle s n p k D found W)
  unfolding after_settle
  settle_matched p k D None W is its = its
  settle_matched p k D (Some m) W is its = settled_matched m m.item (is_lost_message s n D m) (without_waiting p k W) refl (all_found (WaitsFor W.calls) (is_of p k) W.waiting m is its.waits) (waiting_matched p k W its)

  claim_matched : (job : Job) (found : Option Message) (W : Outstanding) → AreMatched s n shut W → AreMatched s n shut (after_claim job found W)
  unfolding after_claim
  claim_matched job None W its = its
  claim_matched job (Some m) W its = record { to_peers = its.to_peers; over = its.over; waits = its.waits; replies = its.replies }

  finish_matched : (job : ℕ) (W : Outstanding) → AreMatched s n shut W → AreMatched s n shut (after_finish job W)
  unfolding after_finish
  finish_matched job W its = record { to_peers = its.to_peers; over = its.over; waits = its.waits; replies = its.replies }

  -- ---- closed sessions

  closed_over : (p : ℕ) (own : OwnCall) (replies : List Message) → (shut own.to ≡ true → IsOver own replies) → (p == own.to || shut own.to) ≡ true → IsOver (call_after_close p replies own) replies
  unfolding call_after_close
  closed_over p own replies over closes = step (own.to == p) refl (list_any (is_reply_from p own.call) replies) refl
    where
      step : (to : Bool) → (own.to == p) ≡ to → (some : Bool) → list_any (is_reply_from p own.call) replies ≡ some → (cond (to && not some) stages.Ended own.stage ≡ stages.Ended) ⊎ (list_any (λ m. replies_to own.call m.item) replies ≡ true)
      step true is true some = inr (any_weaker (is_reply_from p own.call) (λ m. replies_to own.call m.item) (λ m passes. (and_parts (m.from == p) _ passes).1) replies some)
      step true is false some = inl refl
      step false is some e = over (still (p == own.to) (shut own.to) (ne_eqb p own.to (λ same. eqb-false own.to p is (sym same))) closes)
        where
          still : (a b : Bool) → a ≡ false → (a || b) ≡ true → b ≡ true
          still true b none either = cc
          still false b none either = either

  waits_closed : (p : ℕ) (replies : List Message) (calls : List OwnCall) (m : Message) → is_not_from p m ≡ true → WaitsFor calls m → WaitsFor (map (call_after_close p replies) calls) m
  unfolding call_after_close
  waits_closed p replies calls m other waits = λ j is.
      any_mapped (waits_for j m.from) (waits_for j m.from) (call_after_close p replies)
      (λ own passes. let parts = and_parts (own.call == j) (own.to == m.from && is_answered own.stage) passes in let more = and_parts (own.to == m.from) (is_answered own.stage) parts.1 in
      and_from (own.call == j) _ parts.0 (and_from (own.to == m.from) _ more.0 (still (own.to == p) (list_any (is_reply_from p own.call) replies) own.stage (ne_eqb own.to p (λ same. eqb-false m.from p (not-true (m.from == p) other) (sym (eqb-true own.to m.from more.0) ∙ same))) more.1))) calls (waits j is)
    where
      still : (to some : Bool) (stage : Stage) → to ≡ false → is_answered stage ≡ true → is_answered (cond (to && not some) stages.Ended stage) ≡ true
      still true some stage none answered = cc
      still false some stage none answered = answered

  has_closed : (p : ℕ) (replies : List Message) (calls : List OwnCall) (item : Item) → HasCall calls item → HasCall (map (call_after_close p replies) calls) item
  unfolding call_after_close
  has_closed p replies calls item has = (has.0, has.1, any_mapped (is_call has.0) (is_call has.0) (call_after_close p replies) (λ own passes. passes) calls has.2)

  peers_closed : (p : ℕ) (replies : List Message) (calls : List OwnCall) → AllByRecursion (λ (own : OwnCall). is_peer s n own.to ≡ true) calls → AllByRecursion (λ (own : OwnCall). is_peer s n own.to ≡ true) (map (call_after_close p replies) calls)
  unfolding call_after_close
  peers_closed p replies calls all = all_map (λ (own : OwnCall). is_peer s n own.to ≡ true) (λ (own : OwnCall). is_peer s n own.to ≡ true) (call_after_close p replies) (λ own peer. peer) calls all

  one_over : (p : ℕ) (replies : List Message) (own : OwnCall) → (shut own.to ≡ true → IsOver own replies) → (p == (call_after_close p replies own).to || shut (call_after_close p replies own).to) ≡ true → IsOver (call_after_close p replies own) replies
  unfolding call_after_close
  one_over p replies own over closes = closed_over p own replies over closes

  all_over : (p : ℕ) (replies : List Message) (calls : List OwnCall) → AllByRecursion (λ (own : OwnCall). shut own.to ≡ true → IsOver own replies) calls → AllByRecursion (λ (own : OwnCall). (p == own.to || shut own.to) ≡ true → IsOver own replies) (map (call_after_close p replies) calls)
  all_over p replies [] all = tt
  all_over p replies (own ∷ calls) all = (one_over p replies own all.0, all_over p replies calls all.1)

close_matched : (s n p : ℕ) (shut : ℕ → Bool) (W : Outstanding) → AreMatched s n shut W → AreMatched s n (λ q. p == q || shut q) (after_close p W)
unfolding after_close
close_matched s n p shut W its = record {
  to_peers = peers_closed s n shut p W.replies W.calls its.to_peers;
  over = all_over s n shut p W.replies W.calls its.over;
  waits = all_filtered (WaitsFor (map (call_after_close p W.replies) W.calls)) (is_not_from p) W.waiting (all_weaker (WaitsFor W.calls) (λ (m : Message). is_not_from p m ≡ true → WaitsFor (map (call_after_close p W.replies) W.calls) m) (λ m waits other. waits_closed s n shut p W.replies W.calls m other waits) W.waiting its.waits);
  replies = all_weaker (λ (m : Message). HasCall W.calls m.item) (λ (m : Message). HasCall (map (call_after_close p W.replies) W.calls) m.item) (λ m has. has_closed s n shut p W.replies W.calls m.item has) W.replies its.replies;
}

opened_shut : (b before : Bool) → cond b false before ≡ true → before ≡ true
opened_shut true before e = cc
opened_shut false before e = e

-- fewer sessions have closed
fewer_matched : (s n : ℕ) (shut later : ℕ → Bool) (W : Outstanding) → ((p : ℕ) → later p ≡ true → shut p ≡ true) → AreMatched s n shut W → AreMatched s n later W
fewer_matched s n shut later W fewer its = record {
  to_peers = its.to_peers;
  over = all_weaker (λ (own : OwnCall). shut own.to ≡ true → IsOver own W.replies) (λ (own : OwnCall). later own.to ≡ true → IsOver own W.replies) (λ own over closes. over (fewer own.to closes)) W.calls its.over;
  waits = its.waits;
  replies = its.replies;
}

-- ---- loans

replies_kept : (s n j : ℕ) (E : List Deed) (ms : List Message) → list_any (λ m. replies_to j m.item) ms ≡ true → list_any (λ m. replies_to j m.item) (map (λ m. message_after s n E m) ms) ≡ true
unfolding message_after
replies_kept s n j E ms some = any_mapped (λ (m : Message). replies_to j m.item) (λ (m : Message). replies_to j m.item) (λ m. message_after s n E m) (λ m is. is) ms some

over_kept : (s n : ℕ) (E : List Deed) (own : OwnCall) (replies : List Message) → IsOver own replies → IsOver own (map (λ m. message_after s n E m) replies)
over_kept s n E own replies (inl ended) = inl ended
over_kept s n E own replies (inr some) = inr (replies_kept s n own.call E replies some)

loans_matched : (s n : ℕ) (shut : ℕ → Bool) (E : List Deed) (W : Outstanding) → AreMatched s n shut W → AreMatched s n shut (with_loans s n E W)
unfolding with_loans message_after
loans_matched s n shut E W its = record {
  to_peers = its.to_peers;
  over = all_weaker (λ (own : OwnCall). shut own.to ≡ true → IsOver own W.replies) (λ (own : OwnCall). shut own.to ≡ true → IsOver own (map (λ m. message_after s n E m) W.replies)) (λ own over closes. over_kept s n E own W.replies (over closes)) W.calls its.over;
  waits = all_map (WaitsFor W.calls) (WaitsFor W.calls) (λ m. message_after s n E m) (λ m waits. waits) W.waiting its.waits;
  replies = all_map (λ (m : Message). HasCall W.calls m.item) (λ (m : Message). HasCall W.calls m.item) (λ m. message_after s n E m) (λ m has. has) W.replies its.replies;
}

-- ---- a list of right deeds

first_none : (a b : Option Reason) → first_fault a b ≡ None → a ≡ None
first_none (Some reason) b e = absurd (clash reason e)
  where
    clash : (reason : Reason) → Some reason ≡ None → ⊥
    clash reason e = cc
first_none None b e = refl

-- a Reply without a fault is to a call that awaits it
awaited : (s n p : ℕ) (item : Item) (D : List Deed) → fault_of s n p item (history_of s n D) ≡ None → (j : ℕ) → replies_to j item ≡ true → list_any (awaits_reply p j) (work s n D).calls ≡ true
unfolding fault_of
awaited s n p (items.Reply call status value) D none j is =
    subst (λ (k : ℕ). list_any (awaits_reply p k) (work s n D).calls ≡ true) (eqb-true call j is)
    (not-false (list_any (awaits_reply p call) (work s n D).calls) (no_fault (not (list_any (awaits_reply p call) (work s n D).calls)) OutOfPlace (first_none (fault_if (not (list_any (awaits_reply p call) (work s n D).calls)) OutOfPlace) (fault_if (names_not_live s (items.Reply call status value) (history_of s n D)) BadReference) none)))
awaited s n p (items.Call call target method value) D none j is = cc
awaited s n p (items.Settle item) D none j is = cc
awaited s n p (items.Dirty index) D none j is = cc
awaited s n p (items.DirtyOk index) D none j is = cc
awaited s n p (items.DirtyNo index) D none j is = cc
awaited s n p (items.Clean index) D none j is = cc

module _ (s n : ℕ) (limits : Limits) where
  called_matched : (target : WireRep) (method : ℕ) (value : Value) (call : ℕ) (D : List Deed) → IsRightDeed s n limits (did.Call target method value call) D → AreMatched s n (λ p. closed p D) (work s n D) → AreMatched s n (λ p. closed p D) (after_call target.owner call (work s n D))
  unfolding right_after
  called_matched target method value call D right its =
      let told = call_tells s n target value call (history_of s n D) (was_answered s n limits (did.Call target method value call) D right) in
      call_matched s n (λ p. closed p D) target.owner call (work s n D) told.1 told.2 its

  ended_stage : (stage : Stage) → stage ≡ stages.Ended → is_answered stage ≡ false
  ended_stage stage is = ap is_answered is

  over_unwaited : (k : ℕ) (D : List Deed) (own : OwnCall) → AreRightDeeds s n limits D → find (is_call k) (work s n D).calls ≡ Some own → own.stage ≡ stages.Ended → (m : Message) → WaitsFor (work s n D).calls m → not (replies_to k m.item) ≡ true
  over_unwaited k D own right found ended m waits =
      not_from_false (replies_to k m.item) (false_from_ne_true (replies_to k m.item) (λ is.
      both_ways (is_answered own.stage) (ended_stage own.stage ended) (and_parts (own.to == m.from) (is_answered own.stage) (only_one k (λ (o : OwnCall). o.to == m.from && is_answered o.stage) own (work s n D).calls (answered_once s n limits D right).each found (waits k is))).1))

  told_matched : (k : ℕ) (D : List Deed) → AreRightDeeds s n limits (did.TakeEnd k ∷ D) → AreMatched s n (λ p. closed p D) (work s n D) → AreMatched s n (λ p. closed p D) (after_end k (work s n D))
  unfolding right_after
  told_matched k D right its =
      let told = take_end_tells k (history_of s n D) (was_answered s n limits (did.TakeEnd k) D right.0) in
      end_matched s n (λ p. closed p D) k (work s n D)
      (all_weaker (WaitsFor (work s n D).calls) (λ (m : Message). not (replies_to k m.item) ≡ true) (over_unwaited k D told.0 right.1 told.1 told.3) (work s n D).waiting its.waits)
      (all_weaker (λ (m : Message). replies_to k m.item ≡ false) (λ (m : Message). not (replies_to k m.item) ≡ true) (λ m none. not_from_false (replies_to k m.item) none) (work s n D).replies (none_found (λ (m : Message). replies_to k m.item) (work s n D).replies told.2)) its

  acted_matched : (p k : ℕ) (D : List Deed) → AreRightDeeds s n limits (did.Act p k ∷ D) → AreMatched s n (λ q. closed q D) (work s n D) → AreMatched s n (λ q. closed q D) (after_act s n p k D (item_at p k D) (work s n D))
  acted_matched p k D right its =
      let acted = item_acted s n limits p k D (in_turn s n limits D right.1) right.0 in
      act_matched s n (λ q. closed q D) p k D (item_at p k D) (work s n D) (λ item is. awaited s n p item D (subst (λ (i : Item). fault_of s n p i (history_of s n D) ≡ None) (some_same acted.0 item (sym acted.1 ∙ is)) acted.2)) its

  deed_matched : (deed : Deed) (D : List Deed) → AreRightDeeds s n limits (deed ∷ D) → AreMatched s n (λ p. closed p D) (work s n D) → AreMatched s n (λ p. closed p (deed ∷ D)) (work_after s n deed D (work s n D))
  unfolding work_after
  deed_matched (did.Call target method value call) D right its = called_matched target method value call D right.0 its
  deed_matched (did.TakeReply call status value) D right its = take_matched s n (λ p. closed p D) call (work s n D) its
  deed_matched (did.TakeEnd call) D right its = told_matched call D right its
  deed_matched (did.Claim job) D right its = claim_matched s n (λ p. closed p D) job (find (is_job job) (work s n D).ready) (work s n D) its
  deed_matched (did.Finish job outcome) D right its = finish_matched s n (λ p. closed p D) job (work s n D) its
  deed_matched (did.DropReply job) D right its = finish_matched s n (λ p. closed p D) job (work s n D) its
  deed_matched (did.Act p k) D right its = acted_matched p k D right its
  deed_matched (did.Settle p k) D right its = settle_matched s n (λ q. closed q D) p k D (find (is_of p k) (work s n D).waiting) (work s n D) refl its
  deed_matched (did.Closing p reason cause) D right its = close_matched s n p (λ q. closed q D) (work s n D) its
  deed_matched (did.Open p k) D right its = fewer_matched s n (λ q. closed q D) (λ q. closed q (did.Open p k ∷ D)) (work s n D) (λ q. opened_shut (p == q) (closed q D)) its
  deed_matched (deed) D right its = its

  -- calls and replies match
  pub all_matched : (D : List Deed) → AreRightDeeds s n limits D → AreMatched s n (λ p. closed p D) (work s n D)
  all_matched [] right = record { to_peers = tt; over = tt; waits = tt; replies = tt }
  all_matched (deed ∷ D) right = loans_matched s n (λ p. closed p (deed ∷ D)) (deed ∷ D) (work_after s n deed D (work s n D)) (deed_matched deed D right (all_matched D right.1))
