-- Which sessions close: a result that closes one is of Act, Arrive, Tick or Close, and none closes for a bad item.
use Rattle.std.proofs.Common.{◌≡◌, ℕ, ◌+◌, not, Bool, true, false, cond, List, find, Option, Some, None, Result, Ok, Err}
use Rattle.std.specs.Prelude.{nat_le}
use Rattle.nob_ids.specs.declared.limits.Limits.{Limits}
use Rattle.nob_ids.specs.declared.reason.Reason.{Reason}
use Rattle.nob_ids.specs.declared.wire_rep.WireRep.{WireRep}
use Rattle.nob_pickle.specs.declared.value.Value.{Value}
use Rattle.nob_item.specs.declared.item.Item.{Item}
use Rattle.nob_item.specs.declared.item.Item.TheVariants as items
use Rattle.nob_model_types.specs.declared.event.Event.{Event}
use Rattle.nob_model_types.specs.declared.event.Event.TheVariants as events
use Rattle.nob_model_types.specs.declared.event.Outcome.{Outcome}
use Rattle.nob_model_types.specs.declared.answer.Answer.{Answer}
use Rattle.nob_model_types.specs.declared.answer.Answer.TheVariants as answers
use Rattle.nob_model_types.specs.declared.refusal.Refusal.{Refusal}
use Rattle.nob_model_types.specs.declared.refusal.Refusal.TheVariants as refusals
use Rattle.nob_model_types.specs.declared.message.Message.{Message}
use Rattle.nob_model_types.specs.Messages.{replies_to}
use Rattle.nob_model_work.specs.declared.work.OwnCall.{OwnCall}
use Rattle.nob_model_work.specs.declared.work.Run.{Run}
use Rattle.nob_model_work.specs.declared.work.Stage.{Stage}
use Rattle.nob_model_work.specs.declared.work.Stage.TheVariants as stages
use Rattle.nob_model_work.specs.Work.{is_call, is_run}
use Rattle.nob_model_history.specs.declared.history.History.{History}
use Rattle.nob_model_types.specs.declared.answer.Job.{Job}
use Rattle.nob_frame.specs.declared.frame.Frame.{Frame}
use Rattle.nob_model_session.specs.Right.{right_transmit}
use Rattle.nob_model_session.specs.declared.entry.Kind.TheVariants.{Limited}
use Rattle.nob_model_types.specs.Sessions.{is_peer}
use Rattle.nob_model_work.specs.Gifts.{value_of}
use Rattle.nob_model_history.specs.Ends.{calls_at}
use Rattle.nob_model.proofs.Accepted.{accepted, err_ok}
use Rattle.nob_model_acting.specs.Sending.{◌or_else◌, unless, value_refused, send_refused, has_numbers}
use Rattle.nob_model.specs.Opening.{right_open}
use Rattle.nob_model.specs.Right.{right_export, right_dup, right_release, right_call, answer_of_reply, answer_of_stage, answer_of_call, take_of, right_take_reply, job_of, claim_of, right_claim, has_ended, finish_of, right_finish, settle_count, settle_of, right_settle, last_number, clean_of, right_clean, right_withdraw, right_frames, right_after}
use Rattle.nob_model_acting.specs.Candidates.{to_settle, to_clean, to_claim}

-- ---- answers that close nothing

-- whether an event may close a session
abbrev pub may_close : Event → Bool
may_close (events.Act p) = true
may_close (events.Arrive frame) = true
may_close (events.Tick p) = true
may_close (events.Close p) = true
may_close _ = false

-- a result that closes a session
abbrev pub Closes : Result Answer Refusal → Reason → Type 0
Closes result reason = result ≡ accepted (answers.Closed reason)

ok_same : (a b : Answer) → accepted a ≡ accepted b → a ≡ b
ok_same a b e = cc

unless_closed : (refusal : Option Refusal) (a : Answer) (reason : Reason) → Closes (unless refusal a) reason → a ≡ answers.Closed reason
unless_closed (Some refusal) a reason e = absurd (err_ok refusal (answers.Closed reason) e)
unless_closed None a reason e = ok_same a (answers.Closed reason) e

if_closed : (b : Bool) (one other : Result Answer Refusal) (reason : Reason) → Closes (cond b one other) reason → (Closes one reason → ⊥) → (Closes other reason → ⊥) → ⊥
if_closed true one other reason e first second = first e
if_closed false one other reason e first second = second e

exported_clash : (rep : WireRep) (reason : Reason) → answers.Exported rep ≡ answers.Closed reason → ⊥
exported_clash rep reason e = cc

done_clash : (reason : Reason) → answers.Done ≡ answers.Closed reason → ⊥
done_clash reason e = cc

called_clash : (call : ℕ) (reason : Reason) → answers.Called call ≡ answers.Closed reason → ⊥
called_clash call reason e = cc

replied_clash : (status : ℕ) (value : Value) (reason : Reason) → answers.Replied status value ≡ answers.Closed reason → ⊥
replied_clash status value reason e = cc

ended_clash : (reason : Reason) → answers.Ended ≡ answers.Closed reason → ⊥
ended_clash reason e = cc

job_clash : (job : Job) (reason : Reason) → answers.Job job ≡ answers.Closed reason → ⊥
job_clash job reason e = cc

finished_clash : (reason : Reason) → answers.Finished ≡ answers.Closed reason → ⊥
finished_clash reason e = cc

dropped_clash : (reason : Reason) → answers.Dropped ≡ answers.Closed reason → ⊥
dropped_clash reason e = cc

settled_clash : (p k : ℕ) (reason : Reason) → answers.Settled p k ≡ answers.Closed reason → ⊥
settled_clash p k reason e = cc

cleaned_clash : (rep : WireRep) (reason : Reason) → answers.Cleaned rep ≡ answers.Closed reason → ⊥
cleaned_clash rep reason e = cc

withdrawn_clash : (reason : Reason) → answers.Withdrawn ≡ answers.Closed reason → ⊥
withdrawn_clash reason e = cc

frames_clash : (frames : List Frame) (reason : Reason) → answers.Frames frames ≡ answers.Closed reason → ⊥
frames_clash frames reason e = cc

opened_clash : (number : ℕ) (reason : Reason) → answers.Opened number ≡ answers.Closed reason → ⊥
opened_clash number reason e = cc

reply_keeps : (item : Item) (h : History) (reason : Reason) → Closes (answer_of_reply item h) reason → ⊥
unfolding answer_of_reply
reply_keeps (items.Reply call status value) h reason e = replied_clash status value reason (unless_closed _ _ reason e)
reply_keeps (items.Call call target method value) h reason e = err_ok refusals.NotReady _ e
reply_keeps (items.Settle item) h reason e = err_ok refusals.NotReady _ e
reply_keeps (items.Dirty index) h reason e = err_ok refusals.NotReady _ e
reply_keeps (items.DirtyOk index) h reason e = err_ok refusals.NotReady _ e
reply_keeps (items.DirtyNo index) h reason e = err_ok refusals.NotReady _ e
reply_keeps (items.Clean index) h reason e = err_ok refusals.NotReady _ e

stage_keeps : (stage : Stage) (reason : Reason) → Closes (answer_of_stage stage) reason → ⊥
stage_keeps stages.Sent reason e = err_ok refusals.NotReady _ e
stage_keeps stages.Answered reason e = err_ok refusals.NotReady _ e
stage_keeps stages.Ended reason e = ended_clash reason (ok_same _ _ e)

call_keeps : (own : OwnCall) (found : Option Message) (h : History) (reason : Reason) → Closes (answer_of_call own found h) reason → ⊥
unfolding answer_of_call
call_keeps own (Some message) h reason e = reply_keeps message.item h reason e
call_keeps own None h reason e = stage_keeps own.stage reason e

take_keeps : (k : ℕ) (found : Option OwnCall) (h : History) (reason : Reason) → Closes (take_of k found h) reason → ⊥
unfolding take_of
take_keeps k None h reason e = err_ok refusals.NoCall _ e
take_keeps k (Some own) h reason e = call_keeps own (find (λ message. replies_to k message.item) h.work.replies) h reason e

job_keeps : (j p : ℕ) (item : Item) (reason : Reason) → Closes (job_of j p item) reason → ⊥
unfolding job_of
job_keeps j p (items.Call call target method value) reason e = job_clash _ reason (ok_same _ _ e)
job_keeps j p (items.Reply call status value) reason e = err_ok refusals.Nothing _ e
job_keeps j p (items.Settle item) reason e = err_ok refusals.Nothing _ e
job_keeps j p (items.Dirty index) reason e = err_ok refusals.Nothing _ e
job_keeps j p (items.DirtyOk index) reason e = err_ok refusals.Nothing _ e
job_keeps j p (items.DirtyNo index) reason e = err_ok refusals.Nothing _ e
job_keeps j p (items.Clean index) reason e = err_ok refusals.Nothing _ e

claim_keeps : (made : ℕ) (found : Option Message) (reason : Reason) → Closes (claim_of made found) reason → ⊥
unfolding claim_of
claim_keeps made None reason e = err_ok refusals.Nothing _ e
claim_keeps made (Some message) reason e = if_closed (nat_le last_number made) (Err refusals.Limit) (job_of (made + 1) message.from message.item) reason e (λ f. err_ok refusals.Limit _ f) (λ f. job_keeps (made + 1) message.from message.item reason f)

finish_keeps : (s : ℕ) (outcome : Outcome) (found : Option Run) (h : History) (reason : Reason) → Closes (finish_of s outcome found h) reason → ⊥
unfolding finish_of
finish_keeps s outcome None h reason e = err_ok refusals.NoJob _ e
finish_keeps s outcome (Some run) h reason e = if_closed (has_ended run.message h) (Ok answers.Dropped) (unless (value_refused s h (value_of outcome) or_else send_refused run.message.from Limited h) answers.Finished) reason e (λ f. dropped_clash reason (ok_same _ _ f)) (λ f. finished_clash reason (unless_closed _ _ reason f))

settle_keeps : (s n : ℕ) (found : Option Message) (h : History) (reason : Reason) → Closes (settle_of s n found h) reason → ⊥
unfolding settle_of
settle_keeps s n None h reason e = err_ok refusals.Nothing _ e
settle_keeps s n (Some message) h reason e = if_closed (has_numbers message.from (settle_count s n message message.item h) h) (Ok (answers.Settled message.from message.number)) (Err refusals.SeqEnd) reason e (λ f. settled_clash _ _ reason (ok_same _ _ f)) (λ f. err_ok refusals.SeqEnd _ f)

clean_keeps : (found : Option WireRep) (h : History) (reason : Reason) → Closes (clean_of found h) reason → ⊥
unfolding clean_of
clean_keeps None h reason e = err_ok refusals.Nothing _ e
clean_keeps (Some rep) h reason e = if_closed (has_numbers rep.owner 1 h) (Ok (answers.Cleaned rep)) (Err refusals.SeqEnd) reason e (λ f. cleaned_clash _ reason (ok_same _ _ f)) (λ f. err_ok refusals.SeqEnd _ f)

-- only Act, Arrive, Tick and Close close sessions
pub others_keep : (s n : ℕ) (limits : Limits) (h : History) (event : Event) (reason : Reason) → may_close event ≡ false → Closes (right_after s n limits h event) reason → ⊥
unfolding right_after right_export right_dup right_release right_call right_take_reply right_claim right_finish right_settle right_clean right_withdraw right_frames right_open
others_keep s n limits h events.Export reason none e = exported_clash _ reason (unless_closed _ _ reason e)
others_keep s n limits h (events.Dup rep) reason none e = done_clash reason (unless_closed _ _ reason e)
others_keep s n limits h (events.Release rep) reason none e = done_clash reason (unless_closed _ _ reason e)
others_keep s n limits h (events.Call target method value) reason none e = called_clash _ reason (unless_closed _ _ reason e)
others_keep s n limits h (events.TakeReply call) reason none e = take_keeps call (find (is_call call) h.work.calls) h reason e
others_keep s n limits h events.Claim reason none e = claim_keeps _ (to_claim h) reason e
others_keep s n limits h (events.Finish job outcome) reason none e = finish_keeps s outcome (find (is_run job) h.work.running) h reason e
others_keep s n limits h events.Settle reason none e = settle_keeps s n (to_settle s n h) h reason e
others_keep s n limits h events.Clean reason none e = clean_keeps (to_clean s n h) h reason e
others_keep s n limits h (events.Withdraw index) reason none e = withdrawn_clash reason (unless_closed _ _ reason e)
others_keep s n limits h (events.Transmit p) reason none e = if_closed (not (is_peer s n p)) (Err refusals.NoPeer) (Ok (answers.Frames (right_transmit s p limits.window (calls_at p h)))) reason e (λ f. err_ok refusals.NoPeer _ f) (λ f. frames_clash _ reason (ok_same _ _ f))
others_keep s n limits h (events.Open p) reason none e = opened_clash _ reason (unless_closed _ _ reason e)
others_keep s n limits h (events.Act p) reason none e = cc
others_keep s n limits h (events.Arrive frame) reason none e = cc
others_keep s n limits h (events.Tick p) reason none e = cc
others_keep s n limits h (events.Close p) reason none e = cc
