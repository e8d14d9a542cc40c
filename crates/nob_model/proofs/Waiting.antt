-- Items are acted on in turn, and no two messages that wait are one: a Settle takes the message that it named.
use Rattle.std.proofs.Common.{◌≡◌, ℕ, ◌+◌, ◌≤◌, ◌&&◌, Bool, true, false, cond, List, [], ◌∷◌, ◌++◌, length, map, filter, find, Option, Some, None, refl, sym, ap, subst, ◌∙◌, arith}
use Rattle.std.specs.Prelude.{◌==◌, ⊤}
use Rattle.std.specs.List.{AllByRecursion}
use Rattle.std.proofs.lemmas.Bool.{eqb-true, eqb-false, eq-eqb, ne_eqb, and_from, or_from, not-true}
use Rattle.nob_ids.specs.declared.limits.Limits.{Limits}
use Rattle.nob_ids.specs.declared.reason.Reason.{Reason}
use Rattle.nob_item.specs.declared.item.Item.{Item}
use Rattle.nob_item.specs.declared.item.Item.TheVariants as items
use Rattle.nob_model_session.specs.End.{takes}
use Rattle.nob_model_types.specs.declared.answer.Job.{Job}
use Rattle.nob_model_types.specs.declared.deed.Deed.{Deed}
use Rattle.nob_model_types.specs.declared.deed.Deed.TheVariants as did
use Rattle.nob_model_types.specs.declared.deed.Cause.{Cause}
use Rattle.nob_model_types.specs.declared.message.Message.{Message}
use Rattle.nob_model_types.specs.Sessions.{closed, acted, item_at}
use Rattle.nob_model_types.specs.Messages.{new_message, message_after, is_of, is_not_from, is_job, is_lost_message}
use Rattle.nob_model_work.specs.declared.work.Outstanding.{Outstanding}
use Rattle.nob_model_work.specs.Work.{without_first, wait, make_ready, make_reply, is_none_of, is_not_reply, after_message, after_act, after_settlement, without_waiting, after_settle, after_claim, after_finish, after_take, after_end, after_call, after_close, work_after, with_loans, work}
use Rattle.nob_model_history.specs.Histories.{history_of}
use Rattle.nob_model_history.specs.Ends.{calls_at}
use Rattle.nob_model_history.proofs.Inbox.{takes_acted, takes_no_fewer, acted_takes, front_number}
use Rattle.nob_model_history.proofs.Sessions.{opens}
use Rattle.nob_model_acting.specs.Candidates.{is_all_resolved, to_settle}
use Rattle.nob_model_acting.specs.Sending.{has_numbers}
use Rattle.nob_model.specs.Right.{right_after, settle_count}
use Rattle.nob_model.specs.Lists.{IsRightDeed, AreRightDeeds}
use Rattle.nob_model.specs.Laws.{AreFrom, ActedLaw}
use Rattle.nob_model.proofs.Doing.{was_answered}
use Rattle.nob_model.proofs.Accepted.{act_tells, settle_tells}
use Rattle.nob_model.proofs.Reopening.{open_other}

-- ---- items are acted on in turn

-- an Act is of a session that is open here
pub act_open : (s n : ℕ) (limits : Limits) (p k : ℕ) (D : List Deed) → IsRightDeed s n limits (did.Act p k) D → closed p D ≡ false
unfolding right_after
act_open s n limits p k D right = (act_tells s n p k (history_of s n D) (was_answered s n limits (did.Act p k) D right)).1

-- an Act is of the item after those that were taken
pub act_number : (s n : ℕ) (limits : Limits) (p k : ℕ) (D : List Deed) → IsRightDeed s n limits (did.Act p k) D → k ≡ takes (calls_at p (history_of s n D)) + 1
unfolding right_after
act_number s n limits p k D right = let told = (act_tells s n p k (history_of s n D) (was_answered s n limits (did.Act p k) D right)).2 in front_number (calls_at p (history_of s n D)) k told.0 told.2

push_from : (n : ℕ) (pairs : List (ℕ × Option Item)) (pair : ℕ × Option Item) → AreFrom n pairs → pair.0 ≡ n + length pairs → AreFrom n (pairs ++ pair ∷ [])
push_from n [] pair are is = (omega (arith, is), tt)
push_from n (first ∷ pairs) pair are is = (are.0, push_from (n + 1) pairs pair are.1 (omega (arith, is)))

acted_step : (b : Bool) (pairs : List (ℕ × Option Item)) (pair : ℕ × Option Item) → AreFrom 1 pairs → (b ≡ true → pair.0 ≡ length pairs + 1) → AreFrom 1 (cond b (pairs ++ pair ∷ []) pairs)
acted_step true pairs pair are next = push_from 1 pairs pair are (let is = next refl in omega (arith, is))
acted_step false pairs pair are next = are

begun_anew : (b : Bool) (pairs : List (ℕ × Option Item)) → AreFrom 1 pairs → AreFrom 1 (cond b [] pairs)
begun_anew true pairs are = tt
begun_anew false pairs are = are

-- the items from a peer that were acted on have the numbers 1, 2, .. in order
pub acted_law : ActedLaw
acted_law s n limits [] right p = tt
acted_law s n limits (did.Act q k ∷ D) right p =
    acted_step (q == p) (acted p D) (k, item_at p k D) (acted_law s n limits D right.1 p)
    (λ own. subst (λ (r : ℕ). k ≡ takes (calls_at r (history_of s n D)) + 1) (eqb-true q p own) (act_number s n limits q k D right.0) ∙ ap (λ (m : ℕ). m + 1) (sym (acted_takes s n p D)))
acted_law s n limits (did.Open q k ∷ D) right p = begun_anew (q == p) (acted p D) (acted_law s n limits D right.1 p)
acted_law s n limits (deed ∷ D) right p = acted_law s n limits D right.1 p

-- ---- messages that differ

-- a message came on a session that is open here, in an item that was taken
abbrev pub IsOpenIn : (s n : ℕ) → List Deed → Message → Type 0
IsOpenIn s n D message = (closed message.from D ≡ false) × (message.number ≤ takes (calls_at message.from (history_of s n D)))

-- no two of these messages came in the same item from the same space
abbrev pub AreApart : List Message → Type 0
AreApart [] = ⊤
AreApart (message ∷ messages) = AllByRecursion (λ (other : Message). is_of message.from message.number other ≡ false) messages × AreApart messages

pub all_weaker : {X : Type 0} (P Q : X → Type 0) → ((x : X) → P x → Q x) → (xs : List X) → AllByRecursion P xs → AllByRecursion Q xs
all_weaker P Q f [] h = tt
all_weaker P Q f (x ∷ xs) h = (f x h.0, all_weaker P Q f xs h.1)

all_push : {X : Type 0} (P : X → Type 0) (xs : List X) (x : X) → AllByRecursion P xs → P x → AllByRecursion P (xs ++ x ∷ [])
all_push P [] x all own = (own, tt)
all_push P (y ∷ ys) x all own = (all.0, all_push P ys x all.1 own)

pub all_if : {X : Type 0} (P : X → Type 0) (b : Bool) (x : X) (kept : List X) → P x → AllByRecursion P kept → AllByRecursion P (cond b (x ∷ kept) kept)
all_if P true x kept own rest = (own, rest)
all_if P false x kept own rest = rest

pub all_filter : {X : Type 0} (P : X → Type 0) (test : X → Bool) (xs : List X) → AllByRecursion P xs → AllByRecursion P (filter test xs)
all_filter P test [] all = tt
all_filter P test (x ∷ xs) all = all_if P (test x) x (filter test xs) all.0 (all_filter P test xs all.1)

all_less : {X : Type 0} (P : X → Type 0) (b : Bool) (x : X) (xs kept : List X) → P x → AllByRecursion P xs → AllByRecursion P kept → AllByRecursion P (cond b xs (x ∷ kept))
all_less P true x xs kept own rest less = rest
all_less P false x xs kept own rest less = (own, less)

all_without : {X : Type 0} (P : X → Type 0) (test : X → Bool) (xs : List X) → AllByRecursion P xs → AllByRecursion P (without_first test xs)
all_without P test [] all = tt
all_without P test (x ∷ xs) all = all_less P (test x) x xs (without_first test xs) all.0 all.1 (all_without P test xs all.1)

apart_push : (messages : List Message) (message : Message) → AreApart messages → AllByRecursion (λ (other : Message). is_of other.from other.number message ≡ false) messages → AreApart (messages ++ message ∷ [])
apart_push [] message apart new = (tt, tt)
apart_push (first ∷ messages) message apart new = (all_push (λ (other : Message). is_of first.from first.number other ≡ false) messages message apart.0 new.0, apart_push messages message apart.1 new.1)

apart_if : (b : Bool) (message : Message) (kept : List Message) → AllByRecursion (λ (other : Message). is_of message.from message.number other ≡ false) kept → AreApart kept → AreApart (cond b (message ∷ kept) kept)
apart_if true message kept own rest = (own, rest)
apart_if false message kept own rest = rest

apart_filter : (test : Message → Bool) (messages : List Message) → AreApart messages → AreApart (filter test messages)
apart_filter test [] apart = tt
apart_filter test (message ∷ messages) apart = apart_if (test message) message (filter test messages) (all_filter _ test messages apart.0) (apart_filter test messages apart.1)

apart_less : (b : Bool) (message : Message) (messages kept : List Message) → AreApart messages → AllByRecursion (λ (other : Message). is_of message.from message.number other ≡ false) kept → AreApart kept → AreApart (cond b messages (message ∷ kept))
apart_less true message messages kept rest own less = rest
apart_less false message messages kept rest own less = (own, less)

apart_without : (test : Message → Bool) (messages : List Message) → AreApart messages → AreApart (without_first test messages)
apart_without test [] apart = tt
apart_without test (message ∷ messages) apart = apart_less (test message) message messages (without_first test messages) apart.1 (all_without _ test messages apart.0) (apart_without test messages apart.1)

-- messages that wait: they came on open sessions, and no two in one item
abbrev pub AreWaiting : (s n : ℕ) → List Deed → List Message → Type 0
AreWaiting s n D messages = AllByRecursion (IsOpenIn s n D) messages × AreApart messages

filter_waiting : (s n : ℕ) (D : List Deed) (test : Message → Bool) (messages : List Message) → AreWaiting s n D messages → AreWaiting s n D (filter test messages)
filter_waiting s n D test messages are = (all_filter (IsOpenIn s n D) test messages are.0, apart_filter test messages are.1)

without_waits : (s n : ℕ) (D : List Deed) (test : Message → Bool) (messages : List Message) → AreWaiting s n D messages → AreWaiting s n D (without_first test messages)
without_waits s n D test messages are = (all_without (IsOpenIn s n D) test messages are.0, apart_without test messages are.1)

-- ---- loans change nothing of this

loans_open : (s n : ℕ) (D : List Deed) (messages : List Message) → AllByRecursion (IsOpenIn s n D) messages → AllByRecursion (IsOpenIn s n D) (map (λ message. message_after s n D message) messages)
unfolding message_after
loans_open s n D [] are = tt
loans_open s n D (message ∷ messages) are = (are.0, loans_open s n D messages are.1)

loans_other : (s n : ℕ) (D : List Deed) (p k : ℕ) (messages : List Message) → AllByRecursion (λ (other : Message). is_of p k other ≡ false) messages → AllByRecursion (λ (other : Message). is_of p k other ≡ false) (map (λ message. message_after s n D message) messages)
unfolding message_after
loans_other s n D p k [] are = tt
loans_other s n D p k (message ∷ messages) are = (are.0, loans_other s n D p k messages are.1)

loans_apart : (s n : ℕ) (D : List Deed) (messages : List Message) → AreApart messages → AreApart (map (λ message. message_after s n D message) messages)
unfolding message_after
loans_apart s n D [] are = tt
loans_apart s n D (message ∷ messages) are = (loans_other s n D message.from message.number messages are.0, loans_apart s n D messages are.1)

-- ---- one deed more

-- a deed that closes and opens no session leaves what came on open sessions
open_later : (s n : ℕ) (deed : Deed) (D : List Deed) → ((p : ℕ) → opens p deed ≡ false) → ((p : ℕ) → closed p (deed ∷ D) ≡ closed p D) → (messages : List Message) → AreWaiting s n D messages → AreWaiting s n (deed ∷ D) messages
open_later s n deed D none same messages are = (
  all_weaker (IsOpenIn s n D) (IsOpenIn s n (deed ∷ D)) (λ message is. (same message.from ∙ is.0, let most = is.1 in let more = takes_no_fewer s n message.from deed D (none message.from) in omega (arith, most, more))) messages are.0,
  are.1,
)

-- a right Open is of another session than what came on open ones
opened_step : (s n : ℕ) (limits : Limits) (p k : ℕ) (D : List Deed) → IsRightDeed s n limits (did.Open p k) D → (message : Message) → IsOpenIn s n D message → IsOpenIn s n (did.Open p k ∷ D) message
opened_step s n limits p k D right message is =
    let other : (p == message.from) ≡ false = open_other s n limits p k D right message.from is.0 in
    (ap (λ (b : Bool). cond b false (closed message.from D)) other ∙ is.0, let most = is.1 in let more = takes_no_fewer s n message.from (did.Open p k) D other in omega (arith, most, more))

opened_waits : (s n : ℕ) (limits : Limits) (p k : ℕ) (D : List Deed) → IsRightDeed s n limits (did.Open p k) D → (messages : List Message) → AreWaiting s n D messages → AreWaiting s n (did.Open p k ∷ D) messages
opened_waits s n limits p k D right messages are = (all_weaker (IsOpenIn s n D) (IsOpenIn s n (did.Open p k ∷ D)) (opened_step s n limits p k D right) messages are.0, are.1)

closing_step : (s n p : ℕ) (reason : Reason) (cause : Cause) (D : List Deed) (message : Message) → is_not_from p message ≡ true → IsOpenIn s n D message → IsOpenIn s n (did.Closing p reason cause ∷ D) message
closing_step s n p reason cause D message other is = (
  or_from (p == message.from) (closed message.from D) (ne_eqb p message.from (λ same. eqb-false message.from p (not-true _ other) (sym same))) is.0,
  let most = is.1 in let more = takes_no_fewer s n message.from (did.Closing p reason cause) D refl in omega (arith, most, more),
)

kept_if : (s n p : ℕ) (reason : Reason) (cause : Cause) (D : List Deed) (b : Bool) (message : Message) (kept : List Message) → is_not_from p message ≡ b → IsOpenIn s n D message → AllByRecursion (IsOpenIn s n (did.Closing p reason cause ∷ D)) kept → AllByRecursion (IsOpenIn s n (did.Closing p reason cause ∷ D)) (cond b (message ∷ kept) kept)
kept_if s n p reason cause D true message kept other is rest = (closing_step s n p reason cause D message other is, rest)
kept_if s n p reason cause D false message kept other is rest = rest

-- the messages that are left when a session closes came on other sessions
closing_open : (s n p : ℕ) (reason : Reason) (cause : Cause) (D : List Deed) (messages : List Message) → AllByRecursion (IsOpenIn s n D) messages → AllByRecursion (IsOpenIn s n (did.Closing p reason cause ∷ D)) (filter (is_not_from p) messages)
closing_open s n p reason cause D [] are = tt
closing_open s n p reason cause D (message ∷ messages) are = kept_if s n p reason cause D (is_not_from p message) message (filter (is_not_from p) messages) refl are.0 (closing_open s n p reason cause D messages are.1)

-- a message came in another item than the one that is taken now
new_item : (s n : ℕ) (limits : Limits) (p k : ℕ) (D : List Deed) → IsRightDeed s n limits (did.Act p k) D → (message : Message) → IsOpenIn s n D message → (b : Bool) → (p == message.from) ≡ b → (b && k == message.number) ≡ false
new_item s n limits p k D right message is true from =
    let next = act_number s n limits p k D right in
    let most : message.number ≤ takes (calls_at p (history_of s n D)) = subst (λ (q : ℕ). message.number ≤ takes (calls_at q (history_of s n D))) (sym (eqb-true p message.from from)) is.1 in
    ne_eqb k message.number (λ same. omega (arith, next, most, same))
new_item s n limits p k D right message is false from = refl

-- what waits, with a message more that waits
abbrev pub WithNew : (s n p k : ℕ) → List Deed → List Message → Type 0
WithNew s n p k D messages = (message : Message) → message.from ≡ p → message.number ≡ k → AreWaiting s n (did.Act p k ∷ D) (messages ++ message ∷ [])

taken_now : (b : Bool) (k count : ℕ) → b ≡ true → k ≡ count + 1 → k ≤ cond b (count + 1) count
taken_now true k count own is = omega (arith, is)
taken_now false k count own is = cc

with_new : (s n : ℕ) (limits : Limits) (p k : ℕ) (D : List Deed) → IsRightDeed s n limits (did.Act p k) D → (messages : List Message) → AreWaiting s n D messages → WithNew s n p k D messages
with_new s n limits p k D right messages are message from number =
    let later = open_later s n (did.Act p k) D (λ q. refl) (λ q. refl) messages are in
    let most : k ≤ takes (calls_at p (history_of s n (did.Act p k ∷ D))) = subst (λ (m : ℕ). k ≤ m) (sym (takes_acted s n p p k D)) (taken_now (p == p) k (takes (calls_at p (history_of s n D))) (eq-eqb p p refl) (act_number s n limits p k D right)) in
    let own : IsOpenIn s n (did.Act p k ∷ D) message = (
      ap (λ (q : ℕ). closed q D) from ∙ act_open s n limits p k D right,
      subst (λ (q : ℕ). message.number ≤ takes (calls_at q (history_of s n (did.Act p k ∷ D)))) (sym from) (subst (λ (m : ℕ). m ≤ takes (calls_at p (history_of s n (did.Act p k ∷ D)))) (sym number) most),
    ) in
    let unlike : (other : Message) → IsOpenIn s n D other → is_of other.from other.number message ≡ false = λ other is.
    ap (λ (q : ℕ). q == other.from && message.number == other.number) from ∙ ap (λ (m : ℕ). p == other.from && m == other.number) number ∙ new_item s n limits p k D right other is (p == other.from) refl in
    (all_push (IsOpenIn s n (did.Act p k ∷ D)) messages message later.0 own, apart_push messages message later.1 (all_weaker (IsOpenIn s n D) (λ (other : Message). is_of other.from other.number message ≡ false) unlike messages are.0))

call_waits : (s n p k : ℕ) (D : List Deed) (b : Bool) (message : Message) (W : Outstanding) → AreWaiting s n (did.Act p k ∷ D) W.waiting → AreWaiting s n (did.Act p k ∷ D) (W.waiting ++ message ∷ []) → AreWaiting s n (did.Act p k ∷ D) (cond b (make_ready message W) (wait message W)).waiting
call_waits s n p k D true message W are more = are
call_waits s n p k D false message W are more = more

reply_waits : (s n p k : ℕ) (D : List Deed) (b : Bool) (message : Message) (W : Outstanding) → AreWaiting s n (did.Act p k ∷ D) W.waiting → AreWaiting s n (did.Act p k ∷ D) (W.waiting ++ message ∷ []) → AreWaiting s n (did.Act p k ∷ D) (cond b (make_reply message W) (wait message W)).waiting
reply_waits s n p k D true message W are more = are
reply_waits s n p k D false message W are more = more

message_waits : (s n p k : ℕ) (D : List Deed) (message : Message) (item : Item) (W : Outstanding) → AreWaiting s n (did.Act p k ∷ D) W.waiting → AreWaiting s n (did.Act p k ∷ D) (W.waiting ++ message ∷ []) → AreWaiting s n (did.Act p k ∷ D) (after_message message item W).waiting
unfolding after_message
message_waits s n p k D message (items.Call call target method value) W are more = call_waits s n p k D (is_none_of message.copies) message W are more
message_waits s n p k D message (items.Reply call status value) W are more = reply_waits s n p k D (is_none_of message.copies) message W are more
message_waits s n p k D message (items.Settle item) W are more = are
message_waits s n p k D message (items.Dirty index) W are more = are
message_waits s n p k D message (items.DirtyOk index) W are more = are
message_waits s n p k D message (items.DirtyNo index) W are more = are
message_waits s n p k D message (items.Clean index) W are more = are

act_waits : (s n p k : ℕ) (D : List Deed) (found : Option Item) (W : Outstanding) → AreWaiting s n (did.Act p k ∷ D) W.waiting → WithNew s n p k D W.waiting → AreWaiting s n (did.Act p k ∷ D) (after_act s n p k D found W).waiting
unfolding after_act
act_waits s n p k D None W are new = are
act_waits s n p k D (Some item) W are new = let message : Message = new_message s n p k item (did.Act p k ∷ D) in message_waits s n p k D message item W are (new message refl refl)

settlement_waits : (message : Message) (item : Item) (lost : Bool) (W : Outstanding) → (after_settlement message item lost W).waiting ≡ W.waiting
unfolding after_settlement
settlement_waits message (items.Call call target method value) true W = refl
settlement_waits message (items.Call call target method value) false W = refl
settlement_waits message (items.Reply call status value) true W = refl
settlement_waits message (items.Reply call status value) false W = refl
settlement_waits message (items.Settle item) lost W = refl
settlement_waits message (items.Dirty index) lost W = refl
settlement_waits message (items.DirtyOk index) lost W = refl
settlement_waits message (items.DirtyNo index) lost W = refl
settlement_waits message (items.Clean index) lost W = refl

settle_waits : (s n p k : ℕ) (all D : List Deed) (found : Option Message) (W : Outstanding) → AreWaiting s n all W.waiting → AreWaiting s n all (after_settle s n p k D found W).waiting
unfolding after_settle
settle_waits s n p k all D None W are = are
settle_waits s n p k all D (Some message) W are = subst (AreWaiting s n all) (sym (settlement_waits message message.item (is_lost_message s n D message) (without_waiting p k W))) (without_waits s n all (is_of p k) W.waiting are)

claim_waits : (job : Job) (found : Option Message) (W : Outstanding) → (after_claim job found W).waiting ≡ W.waiting
unfolding after_claim
claim_waits job None W = refl
claim_waits job (Some message) W = refl

waiting_after : (s n : ℕ) (limits : Limits) (deed : Deed) (D : List Deed) (W : Outstanding) → IsRightDeed s n limits deed D → AreWaiting s n D W.waiting → AreWaiting s n (deed ∷ D) (work_after s n deed D W).waiting
unfolding work_after after_call after_take after_end after_finish after_close
waiting_after s n limits (did.Act p k) D W right are = act_waits s n p k D (item_at p k D) W (open_later s n (did.Act p k) D (λ q. refl) (λ q. refl) W.waiting are) (with_new s n limits p k D right W.waiting are)
waiting_after s n limits (did.Settle p k) D W right are = settle_waits s n p k (did.Settle p k ∷ D) D (find (is_of p k) W.waiting) W (open_later s n (did.Settle p k) D (λ q. refl) (λ q. refl) W.waiting are)
waiting_after s n limits (did.Claim job) D W right are = subst (AreWaiting s n (did.Claim job ∷ D)) (sym (claim_waits job (find (is_job job) W.ready) W)) (open_later s n (did.Claim job) D (λ q. refl) (λ q. refl) W.waiting are)
waiting_after s n limits (did.TakeReply call status value) D W right are = filter_waiting s n (did.TakeReply call status value ∷ D) (is_not_reply call) W.waiting (open_later s n (did.TakeReply call status value) D (λ q. refl) (λ q. refl) W.waiting are)
waiting_after s n limits (did.Closing p reason cause) D W right are = (closing_open s n p reason cause D W.waiting are.0, apart_filter (is_not_from p) W.waiting are.1)
waiting_after s n limits (did.Call target method value call) D W right are = open_later s n (did.Call target method value call) D (λ q. refl) (λ q. refl) W.waiting are
waiting_after s n limits (did.TakeEnd call) D W right are = open_later s n (did.TakeEnd call) D (λ q. refl) (λ q. refl) W.waiting are
waiting_after s n limits (did.Finish job outcome) D W right are = open_later s n (did.Finish job outcome) D (λ q. refl) (λ q. refl) W.waiting are
waiting_after s n limits (did.DropReply job) D W right are = open_later s n (did.DropReply job) D (λ q. refl) (λ q. refl) W.waiting are
waiting_after s n limits (did.Open p k) D W right are = opened_waits s n limits p k D right W.waiting are
waiting_after s n limits deed D W right are = open_later s n deed D (λ q. refl) (λ q. refl) W.waiting are

-- in a list of right deeds the messages that wait came on sessions that are open here, and no two in one item
pub are_waiting : (s n : ℕ) (limits : Limits) (D : List Deed) → AreRightDeeds s n limits D → AreWaiting s n D (work s n D).waiting
unfolding with_loans
are_waiting s n limits [] right = (tt, tt)
are_waiting s n limits (deed ∷ D) right =
    let are = waiting_after s n limits deed D (work s n D) right.0 (are_waiting s n limits D right.1) in
    (loans_open s n (deed ∷ D) (work_after s n deed D (work s n D)).waiting are.0, loans_apart s n (deed ∷ D) (work_after s n deed D (work s n D)).waiting are.1)

-- ---- the message that a Settle takes

flip_test : (a b : ℕ) → (a == b) ≡ (b == a)
flip_test a b =
    elim (a == b) as (λ t. (a == b) ≡ t → t ≡ (b == a)) [
      | true ↦ λ e. sym (eq-eqb b a (sym (eqb-true a b e)))
      | false ↦ λ e. sym (ne_eqb b a (λ same. eqb-false a b e (sym same)))
    ] refl

of_flip : (a b : Message) → is_of a.from a.number b ≡ is_of b.from b.number a
of_flip a b = ap (λ (t : Bool). t && b.number == a.number) (flip_test b.from a.from) ∙ ap (λ (t : Bool). a.from == b.from && t) (flip_test b.number a.number)

of_self : (a : Message) → is_of a.from a.number a ≡ true
of_self a = and_from _ _ (eq-eqb a.from a.from refl) (eq-eqb a.number a.number refl)

some_same : {A : Type 0} (x y : A) → Some x ≡ Some y → x ≡ y
some_same x y e = cc

none_some : {A : Type 0} (x : A) → None ≡ Some x → ⊥
none_some x e = cc

-- what a search finds has what each has
pub found_has : {A : Type 0} (P : A → Type 0) (test : A → Bool) (xs : List A) (x : A) → AllByRecursion P xs → find test xs ≡ Some x → P x
found_has P test [] x all found = absurd (none_some x found)
found_has P test (y ∷ ys) x all found = has_step P x y (find test ys) all.0 (found_has P test ys x all.1) (test y) found
  where
    has_step : {A : Type 0} (P : A → Type 0) (x y : A) (rest : Option A) → P y → (rest ≡ Some x → P x) → (b : Bool) → cond b (Some y) rest ≡ Some x → P x
    has_step P x y rest own behind true found = subst P (some_same y x found) own
    has_step P x y rest own behind false found = behind found

same_step : (test : Message → Bool) (message first : Message) (messages : List Message) → AllByRecursion (λ (other : Message). is_of first.from first.number other ≡ false) messages → (find test messages ≡ Some message → find (is_of message.from message.number) messages ≡ Some message) → (b : Bool) → cond b (Some first) (find test messages) ≡ Some message → cond (is_of message.from message.number first) (Some first) (find (is_of message.from message.number) messages) ≡ Some message
same_step test message first messages unlike rest true found =
    let same : first ≡ message = some_same first message found in
    ap (λ (b : Bool). cond b (Some first) (find (is_of message.from message.number) messages)) (subst (λ (one : Message). is_of one.from one.number first ≡ true) same (of_self first)) ∙ ap Some same
same_step test message first messages unlike rest false found =
    ap (λ (b : Bool). cond b (Some first) (find (is_of message.from message.number) messages)) (of_flip message first ∙ found_has (λ (other : Message). is_of first.from first.number other ≡ false) test messages message unlike found) ∙ rest found

-- of messages that differ the one that is found is found again by where it came from
found_again : (test : Message → Bool) (messages : List Message) (message : Message) → AreApart messages → find test messages ≡ Some message → find (is_of message.from message.number) messages ≡ Some message
found_again test [] message apart found = absurd (none_some message found)
found_again test (first ∷ messages) message apart found = same_step test message first messages apart.0 (found_again test messages message apart.1) (test first) found

-- a right Settle takes the message that it named: the first whose references are all resolved, on a session that is open here and has free numbers
pub settled_message : (s n : ℕ) (limits : Limits) (p k : ℕ) (D : List Deed) → AreRightDeeds s n limits (did.Settle p k ∷ D) → (message : Message) × (to_settle s n (history_of s n D) ≡ Some message) × (message.from ≡ p) × (message.number ≡ k) × (find (is_of p k) (work s n D).waiting ≡ Some message) × (closed p D ≡ false) × (has_numbers p (settle_count s n message message.item (history_of s n D)) (history_of s n D) ≡ true)
unfolding right_after
settled_message s n limits p k D right =
    let told = settle_tells s n p k (history_of s n D) (was_answered s n limits (did.Settle p k) D right.0) in
    let message : Message = told.0 in
    let waits = are_waiting s n limits D right.1 in
    let again = found_again (is_all_resolved s n (history_of s n D)) (work s n D).waiting message waits.1 told.1 in
    let up = found_has (IsOpenIn s n D) (is_all_resolved s n (history_of s n D)) (work s n D).waiting message waits.0 told.1 in (
      message,
      told.1,
      told.2,
      told.3,
      subst (λ (q : ℕ). find (is_of q k) (work s n D).waiting ≡ Some message) told.2 (subst (λ (m : ℕ). find (is_of message.from m) (work s n D).waiting ≡ Some message) told.3 again),
      ap (λ (q : ℕ). closed q D) (sym told.2) ∙ up.0,
      ap (λ (q : ℕ). has_numbers q (settle_count s n message message.item (history_of s n D)) (history_of s n D)) (sym told.2) ∙ told.4,
    )
