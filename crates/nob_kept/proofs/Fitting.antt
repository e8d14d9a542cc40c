-- Each right answer is of its event's kind.
use Rattle.std.proofs.Common.{◌≡◌, ℕ, Bool, true, false, not, ◌||◌, List, [], ◌∷◌, Option, Some, None, Result, Ok, Err, IfSome, MatchOption, if◌then◌else◌, refl, sym, ap, subst, ◌∙◌}
use Rattle.std.specs.Prelude.{◌==◌}
use Rattle.nob_ids.specs.declared.limits.Limits.{Limits}
use Rattle.nob_ids.specs.declared.reason.Reason.{Reason}
use Rattle.nob_ids.specs.declared.reason.Reason.TheVariants.{Asked}
use Rattle.nob_ids.specs.declared.wire_rep.WireRep.{WireRep}
use Rattle.nob_frame.specs.declared.frame.Frame.{Frame}
use Rattle.nob_pickle.specs.declared.value.Value.{Value}
use Rattle.nob_item.specs.declared.item.Item.{Item}
use Rattle.nob_item.specs.declared.item.Item.TheVariants as items
use Rattle.nob_model_session.specs.Right.{right_transmit, right_arrive, right_front, right_tick, right_close}
use Rattle.nob_model_session.specs.declared.entry.Ending.{Ending}
use Rattle.nob_model_session.specs.declared.entry.Arrived.{Arrived}
use Rattle.nob_model_session.specs.declared.entry.Arrived.TheVariants as arrived
use Rattle.nob_model_session.specs.declared.refusal.EndRefusal.{EndRefusal}
use Rattle.nob_model_types.specs.declared.event.Event.{Event}
use Rattle.nob_model_types.specs.declared.event.Event.TheVariants as events
use Rattle.nob_model_types.specs.declared.event.Outcome.{Outcome}
use Rattle.nob_model_types.specs.declared.answer.Answer.{Answer}
use Rattle.nob_model_types.specs.declared.answer.Answer.TheVariants as answers
use Rattle.nob_model_types.specs.declared.message.Message.{Message}
use Rattle.nob_model_types.specs.declared.refusal.Refusal.{Refusal}
use Rattle.nob_model_types.specs.declared.refusal.Refusal.TheVariants as refusals
use Rattle.nob_model_types.specs.Sessions.{is_peer, closed, item_spelt}
use Rattle.nob_model_work.specs.declared.work.OwnCall.{OwnCall}
use Rattle.nob_model_work.specs.declared.work.Run.{Run}
use Rattle.nob_model_work.specs.declared.work.Stage.{Stage}
use Rattle.nob_model_work.specs.declared.work.Stage.TheVariants as stages
use Rattle.nob_model_history.specs.declared.history.History.{History}
use Rattle.nob_model_history.specs.Ends.{calls_at}
use Rattle.nob_model_acting.specs.Sending.{unless}
use Rattle.nob_model_acting.specs.Acting.{act_on, answer_of_act}
use Rattle.nob_model.specs.Opening.{right_open}
use Rattle.nob_model.specs.Right.{right_after, right_export, right_dup, right_release, right_call, right_take_reply, take_of, answer_of_call, answer_of_reply, answer_of_stage, right_claim, claim_of, job_of, right_finish, finish_of, right_act, act_of, right_settle, settle_of, right_clean, clean_of, right_withdraw, right_frames, right_arrival, arrival_of, right_ticks, tick_of, right_closing, closing_of}
use Rattle.nob_kept.specs.Accounts.{Account, history_in}
use Rattle.nob_kept.specs.Kinds.{is_answer_to, AreOfTheirEvents, IsAnsweredBy, IsNewest, IsNewestAnsweredBy, IsResultOf, IsToNewest}
use Rattle.nob_kept.specs.Receipts.{IsNext}
use Rattle.nob_kept.specs.Seats.{newest}
use Rattle.nob_kept.proofs.Seats.{first_is}
use Rattle.nob_kept.specs.declared.receipt.Receipt.{Receipt}

-- an answer of the kind, unless it is refused
unless_kind : (event : Event) (refusal : Option Refusal) (answer : Answer) → is_answer_to event answer ≡ true → IsResultOf event (unless refusal answer)
unless_kind event (Some refusal) answer is = tt
unless_kind event None answer is = is

-- a refusal where a test holds, and else a result of the kind
or_else_kind : (event : Event) (test : Bool) (refusal : Refusal) (rest : Result Answer Refusal) → IsResultOf event rest → IsResultOf event (if test then Err refusal else rest)
or_else_kind event true refusal rest is = tt
or_else_kind event false refusal rest is = is

-- an answer of the kind where a test holds, and else a refusal
where_kind : (event : Event) (test : Bool) (answer : Answer) (refusal : Refusal) → is_answer_to event answer ≡ true → IsResultOf event (if test then Ok answer else Err refusal)
where_kind event true answer refusal is = is
where_kind event false answer refusal is = tt

export_kind : (s : ℕ) (h : History) → IsResultOf events.Export (right_export s h)
unfolding right_export
export_kind s h = unless_kind events.Export _ _ refl

dup_kind : (s : ℕ) (rep : WireRep) (h : History) → IsResultOf (events.Dup rep) (right_dup s rep h)
unfolding right_dup
dup_kind s rep h = unless_kind (events.Dup rep) _ _ refl

release_kind : (s : ℕ) (rep : WireRep) (h : History) → IsResultOf (events.Release rep) (right_release s rep h)
unfolding right_release
release_kind s rep h = unless_kind (events.Release rep) _ _ refl

stage_kind : (call : ℕ) (stage : Stage) → IsResultOf (events.TakeReply call) (answer_of_stage stage)
stage_kind call stages.Sent = tt
stage_kind call stages.Answered = tt
stage_kind call stages.Ended = refl

reply_kind : (own : ℕ) (item : Item) (h : History) → IsResultOf (events.TakeReply own) (answer_of_reply item h)
unfolding answer_of_reply
reply_kind own (items.Call call target method value) h = tt
reply_kind own (items.Reply call status value) h = unless_kind (events.TakeReply own) _ _ refl
reply_kind own (items.Settle item) h = tt
reply_kind own (items.Dirty index) h = tt
reply_kind own (items.DirtyOk index) h = tt
reply_kind own (items.DirtyNo index) h = tt
reply_kind own (items.Clean index) h = tt

ready_kind : (call : ℕ) (own : OwnCall) (message : Option Message) (h : History) → IsResultOf (events.TakeReply call) (answer_of_call own message h)
unfolding answer_of_call
ready_kind call own (Some message) h = reply_kind call message.item h
ready_kind call own None h = stage_kind call own.stage

take_kind : (call : ℕ) (own : Option OwnCall) (h : History) → IsResultOf (events.TakeReply call) (take_of call own h)
unfolding take_of
take_kind call None h = tt
take_kind call (Some own) h = ready_kind call own _ h

take_reply_kind : (call : ℕ) (h : History) → IsResultOf (events.TakeReply call) (right_take_reply call h)
unfolding right_take_reply
take_reply_kind call h = take_kind call _ h

job_kind : (j p : ℕ) (item : Item) → IsResultOf events.Claim (job_of j p item)
unfolding job_of
job_kind j p (items.Call call target method value) = refl
job_kind j p (items.Reply call status value) = tt
job_kind j p (items.Settle item) = tt
job_kind j p (items.Dirty index) = tt
job_kind j p (items.DirtyOk index) = tt
job_kind j p (items.DirtyNo index) = tt
job_kind j p (items.Clean index) = tt

claimed_kind : (made : ℕ) (message : Option Message) → IsResultOf events.Claim (claim_of made message)
unfolding claim_of
claimed_kind made None = tt
claimed_kind made (Some message) = or_else_kind events.Claim _ _ _ (job_kind _ message.from message.item)

claim_kind : (h : History) → IsResultOf events.Claim (right_claim h)
unfolding right_claim
claim_kind h = claimed_kind _ _

ended_kind : (job : ℕ) (outcome : Outcome) (test : Bool) (refusal : Option Refusal) → IsResultOf (events.Finish job outcome) (if test then Ok answers.Dropped else unless refusal answers.Finished)
ended_kind job outcome true refusal = refl
ended_kind job outcome false refusal = unless_kind (events.Finish job outcome) refusal answers.Finished refl

finished_kind : (s job : ℕ) (outcome : Outcome) (run : Option Run) (h : History) → IsResultOf (events.Finish job outcome) (finish_of s outcome run h)
unfolding finish_of
finished_kind s job outcome None h = tt
finished_kind s job outcome (Some run) h = ended_kind job outcome _ _

finish_kind : (s job : ℕ) (outcome : Outcome) (h : History) → IsResultOf (events.Finish job outcome) (right_finish s job outcome h)
unfolding right_finish
finish_kind s job outcome h = finished_kind s job outcome _ h

acted_kind : (p k : ℕ) (fault : Option Reason) (kept : Option Refusal) → IsResultOf (events.Act p) (answer_of_act k fault kept)
acted_kind p k (Some reason) kept = refl
acted_kind p k None (Some refusal) = tt
acted_kind p k None None = refl

item_kind : (s n p k : ℕ) (item : Option Item) (h : History) → IsResultOf (events.Act p) (act_on s n p k item h)
unfolding act_on
item_kind s n p k None h = refl
item_kind s n p k (Some item) h = acted_kind p k _ _

front_kind : (s n p : ℕ) (front : Option (ℕ × List ℕ)) (h : History) → IsResultOf (events.Act p) (act_of s n p front h)
unfolding act_of
front_kind s n p None h = tt
front_kind s n p (Some front) h = item_kind s n p front.0 (item_spelt front.1) h

act_kind : (s n p : ℕ) (h : History) → IsResultOf (events.Act p) (right_act s n p h)
unfolding right_act
act_kind s n p h =
    let front = right_front (calls_at p h) in
    or_else_kind (events.Act p) (not (is_peer s n p)) refusals.NoPeer (if closed p h.deeds then Err refusals.Closed else act_of s n p front h)
    (or_else_kind (events.Act p) (closed p h.deeds) refusals.Closed (act_of s n p front h) (front_kind s n p front h))

settled_kind : (s n : ℕ) (message : Option Message) (h : History) → IsResultOf events.Settle (settle_of s n message h)
unfolding settle_of
settled_kind s n None h = tt
settled_kind s n (Some message) h = where_kind events.Settle _ (answers.Settled message.from message.number) _ refl

settle_kind : (s n : ℕ) (h : History) → IsResultOf events.Settle (right_settle s n h)
unfolding right_settle
settle_kind s n h = settled_kind s n _ h

cleaned_kind : (rep : Option WireRep) (h : History) → IsResultOf events.Clean (clean_of rep h)
unfolding clean_of
cleaned_kind None h = tt
cleaned_kind (Some rep) h = where_kind events.Clean _ (answers.Cleaned rep) _ refl

clean_kind : (s n : ℕ) (h : History) → IsResultOf events.Clean (right_clean s n h)
unfolding right_clean
clean_kind s n h = cleaned_kind _ h

withdraw_kind : (s index : ℕ) (h : History) → IsResultOf (events.Withdraw index) (right_withdraw s index h)
unfolding right_withdraw
withdraw_kind s index h = unless_kind (events.Withdraw index) _ _ refl

frames_kind : (s n p window : ℕ) (h : History) → IsResultOf (events.Transmit p) (right_frames s n p window h)
unfolding right_frames
frames_kind s n p window h = or_else_kind (events.Transmit p) (not (is_peer s n p)) refusals.NoPeer (Ok (answers.Frames (right_transmit s p window (calls_at p h)))) refl

arrived_kind : (frame : Frame) (told : Result Arrived EndRefusal) → IsResultOf (events.Arrive frame) (arrival_of told)
arrived_kind frame (Ok (arrived.Took count)) = refl
arrived_kind frame (Ok (arrived.Closed ending)) = refl
arrived_kind frame (Err refusal) = tt

arrival_kind : (s n : ℕ) (frame : Frame) (h : History) → IsResultOf (events.Arrive frame) (right_arrival s n frame h)
unfolding right_arrival
arrival_kind s n frame h =
    let told = right_arrive s frame.from frame (calls_at frame.from h) in
    or_else_kind (events.Arrive frame) (not (frame.to == s) || not (is_peer s n frame.from)) refusals.NoPeer (arrival_of told) (arrived_kind frame told)

ticked_kind : (p : ℕ) (told : Result (Option Ending) EndRefusal) → IsResultOf (events.Tick p) (tick_of told)
ticked_kind p (Ok None) = refl
ticked_kind p (Ok (Some ending)) = refl
ticked_kind p (Err refusal) = tt

tick_kind : (s n p retry : ℕ) (h : History) → IsResultOf (events.Tick p) (right_ticks s n p retry h)
unfolding right_ticks
tick_kind s n p retry h =
    let told = right_tick p retry (calls_at p h) in
    or_else_kind (events.Tick p) (not (is_peer s n p)) refusals.NoPeer (tick_of told) (ticked_kind p told)

closed_kind : (p : ℕ) (told : Result Ending EndRefusal) → IsResultOf (events.Close p) (closing_of told)
closed_kind p (Ok ending) = refl
closed_kind p (Err refusal) = tt

close_kind : (s n p : ℕ) (h : History) → IsResultOf (events.Close p) (right_closing s n p h)
unfolding right_closing
close_kind s n p h =
    let told = right_close p Asked (calls_at p h) in
    or_else_kind (events.Close p) (not (is_peer s n p)) refusals.NoPeer (closing_of told) (closed_kind p told)

open_kind : (s n p : ℕ) (h : History) → IsResultOf (events.Open p) (right_open s n p h)
unfolding right_open
open_kind s n p h = unless_kind (events.Open p) _ _ refl

call_kind : (s n : ℕ) (target : WireRep) (method : ℕ) (value : Value) (h : History) → IsResultOf (events.Call target method value) (right_call s n target value h)
unfolding right_call
call_kind s n target method value h = unless_kind (events.Call target method value) _ _ refl

-- the right answer to an event is of its kind, if it isn't refused
pub right_kind : (s n : ℕ) (limits : Limits) (h : History) (event : Event) → IsResultOf event (right_after s n limits h event)
unfolding right_after
right_kind s n limits h events.Export = export_kind s h
right_kind s n limits h (events.Dup rep) = dup_kind s rep h
right_kind s n limits h (events.Release rep) = release_kind s rep h
right_kind s n limits h (events.Call target method value) = call_kind s n target method value h
right_kind s n limits h (events.TakeReply call) = take_reply_kind call h
right_kind s n limits h events.Claim = claim_kind h
right_kind s n limits h (events.Finish job outcome) = finish_kind s job outcome h
right_kind s n limits h (events.Act p) = act_kind s n p h
right_kind s n limits h events.Settle = settle_kind s n h
right_kind s n limits h events.Clean = clean_kind s n h
right_kind s n limits h (events.Withdraw index) = withdraw_kind s index h
right_kind s n limits h (events.Transmit p) = frames_kind s n p limits.window h
right_kind s n limits h (events.Arrive frame) = arrival_kind s n frame h
right_kind s n limits h (events.Tick p) = tick_kind s n p limits.retry h
right_kind s n limits h (events.Close p) = close_kind s n p h
right_kind s n limits h (events.Open p) = open_kind s n p h

-- so the result of a receipt of the next entry is one of its event
pub next_kind : (account : Account) (event : Event) (seen : ℕ) (receipt : Receipt) → IsNext account event seen receipt → IsResultOf receipt.event receipt.result
next_kind account event seen receipt next =
    subst (λ (result : Result Answer Refusal). IsResultOf receipt.event result) (sym next.result_is)
    (subst (λ (e : Event). IsResultOf e (right_after account.id account.n account.limits (history_in account) event)) (sym next.event_is) (right_kind account.id account.n account.limits (history_in account) event))

-- where all results are of their events, so is the newest
pub newest_kind : (receipts : List Receipt) (receipt : Receipt) → newest receipts ≡ Some receipt → AreOfTheirEvents receipts → IsResultOf receipt.event receipt.result
newest_kind [] receipt is are = absurd (cc)
newest_kind (first ∷ earlier) receipt is are = subst (λ (r : Receipt). IsResultOf r.event r.result) (first_is first receipt is) are.0

-- if there is one
pub newest_of_kind : {B : Type 0} (at : B → Receipt) (o : Option B) (receipts : List Receipt) → MatchOption o (newest receipts ≡ None) (λ b. newest receipts ≡ Some (at b))
    → AreOfTheirEvents receipts → IfSome o (λ b. IsResultOf (at b).event (at b).result)
newest_of_kind at None receipts is are = tt
newest_of_kind at (Some b) receipts is are = newest_kind receipts (at b) is are

-- where the newest receipt's event has answers of a kind there is a newest receipt
pub some_newest : (is_one : Answer → Bool) (receipts : List Receipt) → IsNewestAnsweredBy is_one receipts → newest receipts ≡ None → ⊥
some_newest is_one [] kind is = kind
some_newest is_one (receipt ∷ earlier) kind is = absurd (cc)

-- and an answer to that event is of that kind
pub newest_one : (is_one : Answer → Bool) (receipts : List Receipt) (answer : Answer) → IsNewestAnsweredBy is_one receipts → IsToNewest receipts answer → is_one answer ≡ true
newest_one is_one [] answer kind is = absurd kind
newest_one is_one (receipt ∷ earlier) answer kind is = kind answer is

-- the answer of the newest receipt is one to its event
pub newest_to : (receipts : List Receipt) (receipt : Receipt) (answer : Answer) → newest receipts ≡ Some receipt → IsResultOf receipt.event receipt.result → receipt.result ≡ Ok answer → IsToNewest receipts answer
newest_to [] receipt answer is its told = absurd (cc)
newest_to (first ∷ earlier) receipt answer is its told =
    subst (λ (r : Receipt). is_answer_to r.event answer ≡ true) (sym (first_is first receipt is)) (subst (IsResultOf receipt.event) told its)

-- the newest receipt's result is that of the newest
pub newest_result : (receipts : List Receipt) (receipt : Receipt) (result : Result Answer Refusal) → newest receipts ≡ Some receipt → receipt.result ≡ result → IsNewest receipts result
newest_result [] receipt result is told = absurd (cc)
newest_result (first ∷ earlier) receipt result is told = ap (λ (r : Receipt). r.result) (first_is first receipt is) ∙ told

-- a receipt that was added is of an event with such answers, if its event has them
pub added_kind : (is_one : Answer → Bool) (event : Event) (old new : List Receipt) (receipt : Receipt) → new ≡ receipt ∷ old → receipt.event ≡ event → IsAnsweredBy is_one event → IsNewestAnsweredBy is_one new
added_kind is_one event old new receipt more is kind = subst (IsNewestAnsweredBy is_one) (sym more) (subst (IsAnsweredBy is_one) (sym is) kind)
