-- Each message that came from a peer is settled once: its Settle is sent while it waits, and then it waits no more.
use Rattle.std.proofs.Common.{◌≡◌, ℕ, ◌+◌, ◌≤◌, ◌&&◌, Bool, true, false, cond, List, [], ◌∷◌, ◌++◌, map, filter, filter_map, find, Option, Some, None, if◌then◌else◌, refl, sym, ap, subst, ◌∙◌, arith}
use Rattle.std.specs.Prelude.{◌==◌}
use Rattle.std.specs.List.{AllByRecursion, cons_option}
use Rattle.std.proofs.lemmas.Bool.{eqb-true, eqb-false, eq-eqb, ne_eqb, and_parts, and_from, or_parts, or_from, both_ways, false_from_ne_true}
use Rattle.std.proofs.lemmas.List.{append-nil}
use Rattle.std.proofs.lemmas.List.Elements.{filter_map-append}
use Rattle.nob_ids.specs.declared.limits.Limits.{Limits}
use Rattle.nob_ids.specs.declared.wire_rep.WireRep.{WireRep}
use Rattle.nob_item.specs.declared.item.Item.{Item}
use Rattle.nob_item.specs.declared.item.Item.TheVariants as items
use Rattle.nob_model_session.specs.End.{takes}
use Rattle.nob_model_types.specs.declared.answer.Job.{Job}
use Rattle.nob_model_types.specs.declared.deed.Deed.{Deed}
use Rattle.nob_model_types.specs.declared.deed.Deed.TheVariants as did
use Rattle.nob_model_types.specs.declared.message.Message.{Message}
use Rattle.nob_model_types.specs.Sessions.{item_at}
use Rattle.nob_model_types.specs.Messages.{new_message, message_after, is_of, is_not_from, is_job, is_lost_message}
use Rattle.nob_model_work.specs.declared.work.Outstanding.{Outstanding}
use Rattle.nob_model_work.specs.Work.{without_first, wait, make_ready, make_reply, is_none_of, is_not_reply, after_message, after_act, after_settlement, without_waiting, after_settle, after_claim, after_finish, after_take, after_end, after_call, after_close, work_after, with_loans, work}
use Rattle.nob_model.proofs.Carrying.{all_push, all_filter, all_without, all_found, all_mapped}
use Rattle.nob_item.specs.Kinds.{counted_in}
use Rattle.nob_model_types.specs.declared.event.Outcome.{Outcome}
use Rattle.nob_model_types.specs.Sessions.{is_peer, number}
use Rattle.nob_model_types.specs.Objects.{is_live, is_exported}
use Rattle.nob_model_types.specs.Turns.{turns}
use Rattle.nob_model_work.specs.Work.{is_run}
use Rattle.nob_model_work.specs.declared.gifts.Gift.{Gift}
use Rattle.nob_model_work.specs.declared.work.Run.{Run}
use Rattle.nob_model_work.specs.Gifts.{dirty_for, dirties_for, answer_to, gifts_of_act, lost_call_reply, gifts_of_settle, reply_to, gifts_of_finish, gifts_of, gifts}
use Rattle.nob_model_history.specs.Histories.{history_of}
use Rattle.nob_model_history.specs.Ends.{items_to, calls_at}
use Rattle.nob_model_history.specs.Transit.{sent}
use Rattle.nob_model_history.proofs.Numbered.{items_sent_in, gifts_sent_now}
use Rattle.nob_model.proofs.Waiting.{AreApart, IsOpenIn, are_waiting, settled_message, act_number, all_weaker}
use Rattle.nob_model.specs.Lists.{IsRightDeed, AreRightDeeds}
use Rattle.nob_model_history.proofs.Inbox.{takes_no_fewer}
use Rattle.nob_model_history.proofs.Sessions.{opens, number_kept}
use Rattle.nob_model_holdings.proofs.Lists.{all_both, any_push}
use Rattle.nob_model_invariant.specs.Settles.{settle_in, is_in, AreOnce}
use Rattle.nob_model_invariant.proofs.Opened.{opens_above}
use Rattle.nob_model_invariant.proofs.Anew.{none_sent_new}

-- ---- messages that wait, by one deed more

module _ (P : Message → Type 0) where
  either_waits : (b : Bool) (one other : Outstanding) → AllByRecursion P one.waiting → (b ≡ false → AllByRecursion P other.waiting) → AllByRecursion P (cond b one other).waiting
  either_waits true one other its rest = its
  either_waits false one other its rest = rest refl

  message_waits : (m : Message) (item : Item) (W : Outstanding) → (is_none_of m.copies ≡ false → P m) → AllByRecursion P W.waiting → AllByRecursion P (after_message m item W).waiting
  unfolding after_message
  message_waits m (items.Call call target method value) W its all = either_waits (is_none_of m.copies) (make_ready m W) (wait m W) all (λ some. all_push P W.waiting m all (its some))
  message_waits m (items.Reply call status value) W its all = either_waits (is_none_of m.copies) (make_reply m W) (wait m W) all (λ some. all_push P W.waiting m all (its some))
  message_waits m (_) W its all = all

  act_waits : (s n p k : ℕ) (D : List Deed) (found : Option Item) (W : Outstanding) → ((item : Item) → found ≡ Some item → is_none_of (new_message s n p k item (did.Act p k ∷ D)).copies ≡ false → P (new_message s n p k item (did.Act p k ∷ D))) → AllByRecursion P W.waiting → AllByRecursion P (after_act s n p k D found W).waiting
  unfolding after_act
  act_waits s n p k D None W new all = all
  act_waits s n p k D (Some item) W new all = message_waits (new_message s n p k item (did.Act p k ∷ D)) item W (new item refl) all

  settlement_waits : (m : Message) (item : Item) (lost : Bool) (W : Outstanding) → AllByRecursion P W.waiting → AllByRecursion P (after_settlement m item lost W).waiting
  unfolding after_settlement
  settlement_waits m (items.Call call target method value) true W all = all
  settlement_waits m (items.Call call target method value) false W all = all
  settlement_waits m (items.Reply call status value) true W all = all
  settlement_waits m (items.Reply call status value) false W all = all
  settlement_waits m (_) lost W all = all

  settle_waits : (s n p k : ℕ) (D : List Deed) (found : Option Message) (W : Outstanding) → AllByRecursion P W.waiting → AllByRecursion P (without_first (is_of p k) W.waiting) → AllByRecursion P (after_settle s n p k D found W).waiting
  unfolding after_settle
  settle_waits s n p k D None W all less = all
  settle_waits s n p k D (Some m) W all less = settlement_waits m m.item (is_lost_message s n D m) (without_waiting p k W) less

  claim_waits : (job : Job) (found : Option Message) (W : Outstanding) → AllByRecursion P W.waiting → AllByRecursion P (after_claim job found W).waiting
  unfolding after_claim
  claim_waits job None W all = all
  claim_waits job (Some m) W all = all

  loans_wait : (s n : ℕ) (D : List Deed) → ((m : Message) → P m → P (message_after s n D m)) → (W : Outstanding) → AllByRecursion P W.waiting → AllByRecursion P (with_loans s n D W).waiting
  unfolding with_loans
  loans_wait s n D kept W all = all_mapped P (λ m. message_after s n D m) kept W.waiting all

  deed_waits : (s n : ℕ) (deed : Deed) (D : List Deed) (W : Outstanding) → ((p k : ℕ) (item : Item) → deed ≡ did.Act p k → item_at p k D ≡ Some item → is_none_of (new_message s n p k item (did.Act p k ∷ D)).copies ≡ false → P (new_message s n p k item (did.Act p k ∷ D))) → AllByRecursion P W.waiting → AllByRecursion P (work_after s n deed D W).waiting
  unfolding work_after after_call after_take after_end after_finish after_close
  deed_waits s n (did.Act p k) D W new all = act_waits s n p k D (item_at p k D) W (λ item is. new p k item refl is) all
  deed_waits s n (did.Settle p k) D W new all = settle_waits s n p k D (find (is_of p k) W.waiting) W all (all_without P (is_of p k) W.waiting all)
  deed_waits s n (did.Claim job) D W new all = claim_waits job (find (is_job job) W.ready) W all
  deed_waits s n (did.TakeReply call status value) D W new all = all_filter P (is_not_reply call) W.waiting all
  deed_waits s n (did.Closing p reason cause) D W new all = all_filter P (is_not_from p) W.waiting all
  deed_waits s n (did.Call target method value call) D W new all = all
  deed_waits s n (did.TakeEnd call) D W new all = all
  deed_waits s n (did.Finish job outcome) D W new all = all
  deed_waits s n (did.DropReply job) D W new all = all
  deed_waits s n deed D W new all = all

  -- what holds of the messages that wait, and of the one that comes, holds of those that wait then
  pub waits_more : (s n : ℕ) (deed : Deed) (D : List Deed) → ((m : Message) → P m → P (message_after s n (deed ∷ D) m)) → ((p k : ℕ) (item : Item) → deed ≡ did.Act p k → item_at p k D ≡ Some item → is_none_of (new_message s n p k item (did.Act p k ∷ D)).copies ≡ false → P (new_message s n p k item (did.Act p k ∷ D))) → AllByRecursion P (work s n D).waiting → AllByRecursion P (work s n (deed ∷ D)).waiting
  waits_more s n deed D kept new all = loans_wait s n (deed ∷ D) kept (work_after s n deed D (work s n D)) (deed_waits s n deed D (work s n D) new all)

  -- a Settle, by what holds of the others
  pub others_wait : (s n p k : ℕ) (D : List Deed) → ((m : Message) → P m → P (message_after s n (did.Settle p k ∷ D) m)) → (m : Message) → find (is_of p k) (work s n D).waiting ≡ Some m → AllByRecursion P (without_first (is_of p k) (work s n D).waiting) → AllByRecursion P (work s n (did.Settle p k ∷ D)).waiting
  unfolding work_after after_settle
  others_wait s n p k D kept m found all =
      loans_wait s n (did.Settle p k ∷ D) kept (work_after s n (did.Settle p k) D (work s n D))
      (subst (λ (one : Option Message). AllByRecursion P (after_settle s n p k D one (work s n D)).waiting) (sym found) (settlement_waits m m.item (is_lost_message s n D m) (without_waiting p k (work s n D)) all))

-- ---- numbers that were settled

-- the numbers of the items from p that were settled in the session in which space s is
abbrev pub settles_of : (s n p : ℕ) → List Deed → List ℕ
settles_of s n p D = filter_map settle_in (items_sent_in p (number p D) (sent (history_of s n D)))

flip_false : (a b : ℕ) → (a == b) ≡ false → (b == a) ≡ false
flip_false a b e = ne_eqb b a (λ same. eqb-false a b e (sym same))

once_push : (ks : List ℕ) (k : ℕ) → AreOnce ks → is_in k ks ≡ false → AreOnce (ks ++ k ∷ [])
once_push [] k once none = (refl, tt)
once_push (j ∷ ks) k once none =
    let parts = or_parts (j == k) (is_in k ks) none in
    (any_push (λ i. i == j) ks k ∙ or_from (is_in j ks) (k == j) once.0 (flip_false j k parts.0), once_push ks k once.1 parts.1)

-- ---- what a deed settles

-- what a gift settles of the items from p
abbrev pub gift_settles : ℕ → Gift → Option ℕ
gift_settles p gift = cond (gift.to == p) (settle_in gift.item) None

abbrev pub gifts_settle : ℕ → List Gift → List ℕ
gifts_settle p more = filter_map (gift_settles p) more

to_peer : (p : ℕ) (own : Bool) (gift : Gift) (more : List Gift) → filter_map settle_in (map (λ (one : Gift). one.item) (cond own (gift ∷ more) more)) ≡ cons_option (cond own (settle_in gift.item) None) (filter_map settle_in (map (λ (one : Gift). one.item) more))
to_peer p true gift more = refl
to_peer p false gift more = refl

settles_to : (p : ℕ) (more : List Gift) → filter_map settle_in (items_to p more) ≡ gifts_settle p more
settles_to p [] = refl
settles_to p (gift ∷ more) = to_peer p (gift.to == p) gift (filter (λ (one : Gift). one.to == p) more) ∙ ap (cons_option (gift_settles p gift)) (settles_to p more)

settles_more : (s n p : ℕ) (deed : Deed) (D : List Deed) → number p (deed ∷ D) ≡ number p D → settles_of s n p (deed ∷ D) ≡ settles_of s n p D ++ gifts_settle p (gifts s n deed D (work s n D))
settles_more s n p deed D same =
    let more : List Gift = gifts s n deed D (work s n D) in
    ap (λ (k : ℕ). filter_map settle_in (items_sent_in p k (sent (history_of s n (deed ∷ D))))) same
    ∙ ap (filter_map settle_in) (gifts_sent_now p D more (sent (history_of s n D)))
    ∙ filter_map-append settle_in (items_sent_in p (number p D) (sent (history_of s n D))) (items_to p more)
    ∙ ap (λ ks. settles_of s n p D ++ ks) (settles_to p more)

abbrev SettleNone : List Gift → Type 0
SettleNone more = AllByRecursion (λ (gift : Gift). settle_in gift.item ≡ None) more

-- nothing settled
abbrev no_number : Option ℕ
no_number = None

none_either : (own : Bool) → cond own no_number no_number ≡ no_number
none_either true = refl
none_either false = refl

none_settled : (p : ℕ) (more : List Gift) → SettleNone more → gifts_settle p more ≡ []
none_settled p [] are = refl
none_settled p (gift ∷ more) are =
    ap (λ one. cons_option (cond (gift.to == p) one None) (gifts_settle p more)) are.0
    ∙ ap (λ one. cons_option one (gifts_settle p more)) (none_either (gift.to == p))
    ∙ none_settled p more are.1

reply_none : (p : ℕ) (item : Item) (outcome : Outcome) → SettleNone (reply_to p item outcome)
unfolding reply_to
reply_none p (items.Call call target method value) outcome = (refl, tt)
reply_none p (items.Reply call status value) outcome = tt
reply_none p (items.Settle item) outcome = tt
reply_none p (items.Dirty index) outcome = tt
reply_none p (items.DirtyOk index) outcome = tt
reply_none p (items.DirtyNo index) outcome = tt
reply_none p (items.Clean index) outcome = tt

finish_none : (outcome : Outcome) (found : Option Run) → SettleNone (gifts_of_finish outcome found)
unfolding gifts_of_finish
finish_none outcome None = tt
finish_none outcome (Some run) = reply_none run.message.from run.message.item outcome

lost_none : (p : ℕ) (item : Item) (lost : Bool) → SettleNone (lost_call_reply p item lost)
unfolding lost_call_reply
lost_none p (items.Call call target method value) true = (refl, tt)
lost_none p (items.Call call target method value) false = tt
lost_none p (items.Reply call status value) lost = tt
lost_none p (items.Settle item) lost = tt
lost_none p (items.Dirty index) lost = tt
lost_none p (items.DirtyOk index) lost = tt
lost_none p (items.DirtyNo index) lost = tt
lost_none p (items.Clean index) lost = tt

dirties_none : (reps : List WireRep) → SettleNone (map dirty_for reps)
unfolding dirty_for
dirties_none [] = tt
dirties_none (rep ∷ reps) = (refl, dirties_none reps)

wanted_none : (s n : ℕ) (D : List Deed) (reps : List WireRep) → SettleNone (dirties_for s n D reps)
unfolding dirties_for
wanted_none s n D reps = dirties_none _

answer_none : (p index : ℕ) (alive known : Bool) → SettleNone (cond alive (record { to = p; item = items.DirtyOk index } ∷ []) (cond known (record { to = p; item = items.DirtyNo index } ∷ []) []))
answer_none p index true known = (refl, tt)
answer_none p index false true = (refl, tt)
answer_none p index false false = tt

act_none : (s n p : ℕ) (D : List Deed) (found : Option Item) → SettleNone (gifts_of_act s n p D found)
unfolding gifts_of_act answer_to
act_none s n p D None = tt
act_none s n p D (Some (items.Call call target method value)) = wanted_none s n D (counted_in (items.Call call target method value))
act_none s n p D (Some (items.Reply call status value)) = wanted_none s n D (counted_in (items.Reply call status value))
act_none s n p D (Some (items.Settle item)) = tt
act_none s n p D (Some (items.Dirty index)) = answer_none p index (is_live s index D) (is_exported s index D)
act_none s n p D (Some (items.DirtyOk index)) = tt
act_none s n p D (Some (items.DirtyNo index)) = tt
act_none s n p D (Some (items.Clean index)) = tt

clean_none : (rep : WireRep) (asks : Bool) → SettleNone (cond asks (record { to = rep.owner; item = items.Clean rep.index } ∷ []) [])
clean_none rep true = (refl, tt)
clean_none rep false = tt

-- whether a deed is a Settle
abbrev pub is_settle : Deed → Bool
is_settle (did.Settle p k) = true
is_settle (_) = false

gives_none : (s n : ℕ) (deed : Deed) (D : List Deed) → is_settle deed ≡ false → SettleNone (gifts_of s n deed D (work s n D))
unfolding gifts_of
gives_none s n (did.Call target method value call) D none = (refl, tt)
gives_none s n (did.Finish job outcome) D none = finish_none outcome (find (is_run job) (work s n D).running)
gives_none s n (did.Act p k) D none = act_none s n p D (item_at p k D)
gives_none s n (did.Settle p k) D none = cc
gives_none s n (did.Clean rep) D none = clean_none rep (turns s n rep D).asks
gives_none s n deed D none = tt

pub settles_same : (s n p : ℕ) (deed : Deed) (D : List Deed) → number p (deed ∷ D) ≡ number p D → is_settle deed ≡ false → settles_of s n p (deed ∷ D) ≡ settles_of s n p D
unfolding gifts
settles_same s n p deed D same none =
    settles_more s n p deed D same
    ∙ ap (λ ks. settles_of s n p D ++ ks) (none_settled p (filter (λ (gift : Gift). is_peer s n gift.to) (gifts_of s n deed D (work s n D))) (all_filter (λ (gift : Gift). settle_in gift.item ≡ None) (λ (gift : Gift). is_peer s n gift.to) (gifts_of s n deed D (work s n D)) (gives_none s n deed D none)))
    ∙ append-nil (settles_of s n p D)

settle_if : (s n p q k : ℕ) (more : List Gift) → SettleNone more → (peer own : Bool) → is_peer s n q ≡ peer → (q == p) ≡ own → gifts_settle p (filter (λ (gift : Gift). is_peer s n gift.to) (record { to = q; item = items.Settle k } ∷ more)) ≡ cond (peer && own) (k ∷ []) []
settle_if s n p q k more none true own is same =
    ap (λ (b : Bool). gifts_settle p (cond b (record { to = q; item = items.Settle k } ∷ filter (λ (gift : Gift). is_peer s n gift.to) more) (filter (λ (gift : Gift). is_peer s n gift.to) more))) is
    ∙ ap (λ (b : Bool). cons_option (cond b (Some k) None) (gifts_settle p (filter (λ (gift : Gift). is_peer s n gift.to) more))) same
    ∙ ap (λ ks. cons_option (cond own (Some k) None) ks) (none_settled p (filter (λ (gift : Gift). is_peer s n gift.to) more) (all_filter (λ (gift : Gift). settle_in gift.item ≡ None) (λ (gift : Gift). is_peer s n gift.to) more none))
    ∙ one own
  where
    one : (own : Bool) → cons_option (cond own (Some k) None) [] ≡ cond own (k ∷ []) []
    one true = refl
    one false = refl
settle_if s n p q k more none false own is same =
    ap (λ (b : Bool). gifts_settle p (cond b (record { to = q; item = items.Settle k } ∷ filter (λ (gift : Gift). is_peer s n gift.to) more) (filter (λ (gift : Gift). is_peer s n gift.to) more))) is
    ∙ none_settled p (filter (λ (gift : Gift). is_peer s n gift.to) more) (all_filter (λ (gift : Gift). settle_in gift.item ≡ None) (λ (gift : Gift). is_peer s n gift.to) more none)

-- a Settle settles its item
pub settles_now : (s n p q k : ℕ) (D : List Deed) (m : Message) → find (is_of q k) (work s n D).waiting ≡ Some m → settles_of s n p (did.Settle q k ∷ D) ≡ settles_of s n p D ++ cond (is_peer s n q && q == p) (k ∷ []) []
unfolding gifts gifts_of gifts_of_settle
settles_now s n p q k D m found =
    settles_more s n p (did.Settle q k) D refl
    ∙ ap (λ one. settles_of s n p D ++ gifts_settle p (filter (λ (gift : Gift). is_peer s n gift.to) (gifts_of_settle s n q k D one))) found
    ∙ ap (λ ks. settles_of s n p D ++ ks) (settle_if s n p q k (lost_call_reply q m.item (is_lost_message s n D m)) (lost_none q m.item (is_lost_message s n D m)) (is_peer s n q) (q == p) refl refl)

-- ---- each once

-- a message from p isn't settled
abbrev pub IsOver : ℕ → List ℕ → Message → Type 0
IsOver p ks m = (m.from == p) ≡ true → is_in m.number ks ≡ false

-- how it stands with p at space s: what waits isn't settled, what is settled was acted on, and nothing is settled twice
pub record SettledOnce (s n p : ℕ) (D : List Deed) : Type 0 where
  pub over : AllByRecursion (IsOver p (settles_of s n p D)) (work s n D).waiting
  pub low : AllByRecursion (λ k. k ≤ takes (calls_at p (history_of s n D))) (settles_of s n p D)
  pub once : AreOnce (settles_of s n p D)

over_kept : (s n p : ℕ) (D : List Deed) (ks : List ℕ) (m : Message) → IsOver p ks m → IsOver p ks (message_after s n D m)
unfolding message_after
over_kept s n p D ks m is = is

above_none : (t k : ℕ) (ks : List ℕ) → AllByRecursion (λ j. j ≤ t) ks → k ≡ t + 1 → is_in k ks ≡ false
above_none t k [] low is = refl
above_none t k (j ∷ ks) low is = or_from (j == k) (is_in k ks) (ne_eqb j k (λ same. (let most = low.0 in omega (arith, most, is, same)))) (above_none t k ks low.1 is)

low_later : (s n p : ℕ) (deed : Deed) (D : List Deed) → opens p deed ≡ false → (ks : List ℕ) → AllByRecursion (λ k. k ≤ takes (calls_at p (history_of s n D))) ks → AllByRecursion (λ k. k ≤ takes (calls_at p (history_of s n (deed ∷ D)))) ks
low_later s n p deed D kept ks low = all_weaker (λ k. k ≤ takes (calls_at p (history_of s n D))) (λ k. k ≤ takes (calls_at p (history_of s n (deed ∷ D)))) (λ k most. let more = takes_no_fewer s n p deed D kept in omega (arith, most, more)) ks low

new_over : (s n : ℕ) (limits : Limits) (p : ℕ) (deed : Deed) (D : List Deed) → IsRightDeed s n limits deed D → SettledOnce s n p D → (q k : ℕ) (item : Item) → deed ≡ did.Act q k → item_at q k D ≡ Some item → IsOver p (settles_of s n p D) (new_message s n q k item (did.Act q k ∷ D))
new_over s n limits p deed D right before q k item is found = λ own.
    let next = act_number s n limits q k D (subst (λ (one : Deed). IsRightDeed s n limits one D) is right) in
    above_none (takes (calls_at p (history_of s n D))) k (settles_of s n p D) before.low (next ∙ ap (λ (r : ℕ). takes (calls_at r (history_of s n D)) + 1) (eqb-true q p own))

-- a deed that is no Settle
other_once : (s n : ℕ) (limits : Limits) (p : ℕ) (deed : Deed) (D : List Deed) → opens p deed ≡ false → IsRightDeed s n limits deed D → is_settle deed ≡ false → SettledOnce s n p D → SettledOnce s n p (deed ∷ D)
other_once s n limits p deed D kept right none before =
    let same = settles_same s n p deed D (number_kept p deed D kept) none in
    record {
      over = subst (λ ks. AllByRecursion (IsOver p ks) (work s n (deed ∷ D)).waiting) (sym same) (waits_more (IsOver p (settles_of s n p D)) s n deed D (over_kept s n p (deed ∷ D) (settles_of s n p D)) (λ q k item is found some. new_over s n limits p deed D right before q k item is found) before.over);
      low = subst (AllByRecursion (λ k. k ≤ takes (calls_at p (history_of s n (deed ∷ D))))) (sym same) (low_later s n p deed D kept (settles_of s n p D) before.low);
      once = subst AreOnce (sym same) before.once;
    }

other_of : (q k from number : ℕ) (o : Message) → from ≡ q → number ≡ k → is_of from number o ≡ false → is_of q k o ≡ false
other_of q k from number o same also none = ap (λ (r : ℕ). is_of r k o) (sym same) ∙ ap (λ (j : ℕ). is_of from j o) (sym also) ∙ none

-- of messages that differ only one is of an item
only_one : (q k : ℕ) (ms : List Message) (m : Message) → AreApart ms → find (is_of q k) ms ≡ Some m → AllByRecursion (λ o. is_of q k o ≡ false) (without_first (is_of q k) ms)
only_one q k [] m apart found = tt
only_one q k (first ∷ ms) m apart found = one_by (is_of q k first) refl (only_one q k ms m apart.1) found
  where
    one_by : (b : Bool) → is_of q k first ≡ b → (find (is_of q k) ms ≡ Some m → AllByRecursion (λ o. is_of q k o ≡ false) (without_first (is_of q k) ms)) → cond b (Some first) (find (is_of q k) ms) ≡ Some m → AllByRecursion (λ o. is_of q k o ≡ false) (if b then ms else first ∷ without_first (is_of q k) ms)
    one_by true is rest found = let parts = and_parts (first.from == q) (first.number == k) is in all_weaker (λ o. is_of first.from first.number o ≡ false) (λ o. is_of q k o ≡ false) (λ o none. other_of q k first.from first.number o (eqb-true _ _ parts.0) (eqb-true _ _ parts.1) none) ms apart.0
    one_by false is rest found = (is, rest found)

unlike_number : (q k p : ℕ) (o : Message) → q ≡ p → is_of q k o ≡ false → (o.from == p) ≡ true → (k == o.number) ≡ false
unlike_number q k p o same none own =
    false_from_ne_true (k == o.number) (λ equal. both_ways (is_of q k o) none (and_from _ _ (ap (λ (r : ℕ). o.from == r) same ∙ own) (eq-eqb o.number k (sym (eqb-true k o.number equal)))))

settle_once : (s n : ℕ) (limits : Limits) (p q k : ℕ) (D : List Deed) → AreRightDeeds s n limits (did.Settle q k ∷ D) → SettledOnce s n p D → (b : Bool) → (b ≡ true → q ≡ p) → settles_of s n p (did.Settle q k ∷ D) ≡ settles_of s n p D ++ cond b (k ∷ []) [] → SettledOnce s n p (did.Settle q k ∷ D)
settle_once s n limits p q k D right before true own is =
    let told = settled_message s n limits q k D right in
    let m : Message = told.0 in
    let ks : List ℕ = settles_of s n p D in
    let same : q ≡ p = own refl in
    let waits = are_waiting s n limits D right.1 in
    let fresh : is_in k ks ≡ false = ap (λ (j : ℕ). is_in j ks) (sym told.3) ∙ all_found (IsOver p ks) (is_of q k) (work s n D).waiting m told.4 before.over (eq-eqb m.from p (told.2 ∙ same)) in
    let taken : k ≤ takes (calls_at p (history_of s n D)) = subst (λ (r : ℕ). k ≤ takes (calls_at r (history_of s n D))) (told.2 ∙ same) (subst (λ (j : ℕ). j ≤ takes (calls_at m.from (history_of s n D))) told.3 (all_found (λ (o : Message). o.number ≤ takes (calls_at o.from (history_of s n D))) (is_of q k) (work s n D).waiting m told.4 (all_weaker (IsOpenIn s n D) (λ (o : Message). o.number ≤ takes (calls_at o.from (history_of s n D))) (λ o open_in. open_in.1) (work s n D).waiting waits.0))) in
    let others : AllByRecursion (IsOver p (ks ++ k ∷ [])) (without_first (is_of q k) (work s n D).waiting) = all_both (IsOver p ks) (λ (o : Message). is_of q k o ≡ false) (IsOver p (ks ++ k ∷ []))
    (λ o over none from. any_push (λ j. j == o.number) ks k ∙ or_from (is_in o.number ks) (k == o.number) (over from) (unlike_number q k p o same none from))
    (without_first (is_of q k) (work s n D).waiting) (all_without (IsOver p ks) (is_of q k) (work s n D).waiting before.over) (only_one q k (work s n D).waiting m waits.1 told.4) in
    record {
      over = subst (λ js. AllByRecursion (IsOver p js) (work s n (did.Settle q k ∷ D)).waiting) (sym is) (others_wait (IsOver p (ks ++ k ∷ [])) s n q k D (over_kept s n p (did.Settle q k ∷ D) (ks ++ k ∷ [])) m told.4 others);
      low = subst (AllByRecursion (λ j. j ≤ takes (calls_at p (history_of s n (did.Settle q k ∷ D))))) (sym is) (low_later s n p (did.Settle q k) D refl (ks ++ k ∷ []) (all_push (λ j. j ≤ takes (calls_at p (history_of s n D))) ks k before.low taken));
      once = subst AreOnce (sym is) (once_push ks k before.once fresh);
    }
settle_once s n limits p q k D right before false own is =
    let told = settled_message s n limits q k D right in
    let ks : List ℕ = settles_of s n p D in
    let same = is ∙ append-nil ks in
    record {
      over = subst (λ js. AllByRecursion (IsOver p js) (work s n (did.Settle q k ∷ D)).waiting) (sym same) (others_wait (IsOver p ks) s n q k D (over_kept s n p (did.Settle q k ∷ D) ks) told.0 told.4 (all_without (IsOver p ks) (is_of q k) (work s n D).waiting before.over));
      low = subst (AllByRecursion (λ j. j ≤ takes (calls_at p (history_of s n (did.Settle q k ∷ D))))) (sym same) (low_later s n p (did.Settle q k) D refl ks before.low);
      once = subst AreOnce (sym same) before.once;
    }

none_over : (p : ℕ) (ms : List Message) → AllByRecursion (IsOver p []) ms
none_over p [] = tt
none_over p (m ∷ ms) = ((λ own. refl), none_over p ms)

-- a session that is opened anew
open_once : (s n : ℕ) (limits : Limits) (p q k : ℕ) (D : List Deed) → AreRightDeeds s n limits (did.Open q k ∷ D) → SettledOnce s n p D → (b : Bool) → (q == p) ≡ b → SettledOnce s n p (did.Open q k ∷ D)
open_once s n limits p q k D right before true own =
    let none : settles_of s n p (did.Open q k ∷ D) ≡ [] = ap (filter_map settle_in) (none_sent_new s n p limits (did.Open q k) D right (opens_above s n p limits (did.Open q k) D right.0 own)) in
    record {
      over = subst (λ ks. AllByRecursion (IsOver p ks) (work s n (did.Open q k ∷ D)).waiting) (sym none) (none_over p (work s n (did.Open q k ∷ D)).waiting);
      low = subst (AllByRecursion (λ j. j ≤ takes (calls_at p (history_of s n (did.Open q k ∷ D))))) (sym none) tt;
      once = subst AreOnce (sym none) tt;
    }
open_once s n limits p q k D right before false other = other_once s n limits p (did.Open q k) D other right.0 refl before

-- in every list of right deeds each message is settled once, while it waits
pub settled_once : (s n : ℕ) (limits : Limits) (p : ℕ) (D : List Deed) → AreRightDeeds s n limits D → SettledOnce s n p D
settled_once s n limits p [] right = record { over = tt; low = tt; once = tt }
settled_once s n limits p (did.Settle q k ∷ D) right =
    let told = settled_message s n limits q k D right in
    settle_once s n limits p q k D right (settled_once s n limits p D right.1) (is_peer s n q && q == p) (λ both. eqb-true q p (and_parts _ _ both).1) (settles_now s n p q k D told.0 told.4)
settled_once s n limits p (did.Open q k ∷ D) right = open_once s n limits p q k D right (settled_once s n limits p D right.1) (q == p) refl
settled_once s n limits p (deed ∷ D) right = other_once s n limits p deed D refl right.0 refl (settled_once s n limits p D right.1)
