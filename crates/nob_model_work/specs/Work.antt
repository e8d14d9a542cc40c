-- The outstanding work at a space: messages that wait for their references, ready and running jobs, ready replies, and
-- the space's own calls whose replies aren't taken.
use Rattle.std.specs.Prelude.{ℕ, Bool, true, false, ◌&&◌, not, ◌==◌, List, [], ◌∷◌, ◌++◌, Option, Some, None, map, filter, find, if◌then◌else◌}
use Rattle.std.specs.List.{list_any}
use Rattle.nob_model_types.specs.Item.{Item}
use Rattle.nob_model_types.specs.Item.TheVariants as items
use Rattle.nob_model_types.specs.Value.TheVariants as values
use Rattle.nob_model_types.specs.declared.answer.Job.{Job}
use Rattle.nob_model_types.specs.declared.deed.Deed.{Deed}
use Rattle.nob_model_types.specs.declared.deed.Deed.TheVariants.{Call, TakeReply, TakeEnd, Claim, Finish, DropReply, Act, Settle, Closing}
use Rattle.nob_model_types.specs.Sessions.{item_at}
use Rattle.nob_model_types.specs.declared.message.Message.{Message}
use Rattle.nob_model_work.specs.declared.work.Stage.{Stage}
use Rattle.nob_model_work.specs.declared.work.Stage.TheVariants as stages
use Rattle.nob_model_work.specs.declared.work.OwnCall.{OwnCall}
use Rattle.nob_model_work.specs.declared.work.Run.{Run}
use Rattle.nob_model_work.specs.declared.work.Outstanding.{Outstanding}
use Rattle.nob_model_types.specs.Messages.{new_message, message_after, is_of, is_not_from, replies_to, is_job, is_lost_message}

-- a space that has done nothing has nothing outstanding
abbrev pub no_work : Outstanding
no_work = record { waiting = []; ready = []; running = []; replies = []; calls = [] }

-- all but the first element that passes a test
abbrev pub without_first : {A : Type 0} → (A → Bool) → List A → List A
without_first test [] = []
without_first test (x ∷ xs) = if test x then xs else x ∷ without_first test xs

-- whether a call has this number
abbrev pub is_call : ℕ → OwnCall → Bool
is_call k own = own.call == k

-- whether a job that runs has this number
abbrev pub is_run : ℕ → Run → Bool
is_run j run = run.job == j

-- a call that was sent is answered by a Reply to it from the space that it was sent to
abbrev pub stage_after_reply : Bool → Stage → Stage
stage_after_reply answered stages.Sent = if answered then stages.Answered else stages.Sent
stage_after_reply answered stages.Answered = stages.Answered
stage_after_reply answered stages.Ended = stages.Ended

-- a call after a Reply to call k from p was acted on
unfoldable pub call_after_reply : (p k : ℕ) → OwnCall → OwnCall
call_after_reply p k own = record { call = own.call; to = own.to; stage = stage_after_reply (own.to == p && own.call == k) own.stage }

-- a Reply from p that is ready answers call k
abbrev pub is_reply_from : (p k : ℕ) → Message → Bool
is_reply_from p k message = message.from == p && replies_to k message.item

-- a call that has no ready reply ends when the session that it was sent on closes
unfoldable pub call_after_close : ℕ → List Message → OwnCall → OwnCall
call_after_close p replies own = record { call = own.call; to = own.to; stage = if own.to == p && not (list_any (is_reply_from p own.call) replies) then stages.Ended else own.stage }

-- one message more that waits
abbrev pub wait : Message → Outstanding → Outstanding
wait message work = record { waiting = work.waiting ++ message ∷ []; ready = work.ready; running = work.running; replies = work.replies; calls = work.calls }

-- one ready job more
abbrev pub make_ready : Message → Outstanding → Outstanding
make_ready message work = record { waiting = work.waiting; ready = work.ready ++ message ∷ []; running = work.running; replies = work.replies; calls = work.calls }

-- one ready reply more
abbrev pub make_reply : Message → Outstanding → Outstanding
make_reply message work = record { waiting = work.waiting; ready = work.ready; running = work.running; replies = work.replies ++ message ∷ []; calls = work.calls }

-- the calls changed
abbrev pub with_calls : (OwnCall → OwnCall) → Outstanding → Outstanding
with_calls change work = record { waiting = work.waiting; ready = work.ready; running = work.running; replies = work.replies; calls = map change work.calls }

-- whether nothing is in a list
abbrev pub is_none_of : {A : Type 0} → List A → Bool
is_none_of [] = true
is_none_of (x ∷ xs) = false

-- a message acted on: without counted references a Call is a ready job and a Reply is ready, else they wait; a Reply answers its call
unfoldable pub after_message : Message → Item → Outstanding → Outstanding
after_message message (items.Call call target method value) work = if is_none_of message.copies then make_ready message work else wait message work
after_message message (items.Reply call status value) work = with_calls (call_after_reply message.from call) (if is_none_of message.copies then make_reply message work else wait message work)
after_message message (items.Settle item) work = work
after_message message (items.Dirty index) work = work
after_message message (items.DirtyOk index) work = work
after_message message (items.DirtyNo index) work = work
after_message message (items.Clean index) work = work

-- after Act on item k from p, if it can be read: a reference is lost from the start if it is lost once the item is acted on
unfoldable pub after_act : (s n p k : ℕ) → List Deed → Option Item → Outstanding → Outstanding
after_act s n p k D None work = work
after_act s n p k D (Some item) work = after_message (new_message s n p k item (Act p k ∷ D)) item work

-- the Reply that stands for one with a lost reference: status 3 with unit, and nothing is lent by it
abbrev pub lost_reply : Message → ℕ → Message
lost_reply message call = record { from = message.from; session = message.session; number = message.number; item = items.Reply call 3 values.Unit; copies = [] }

-- a message that was settled, by its item: a Call is a ready job, or over if it was lost; a Reply is ready, as a lost one if it was lost
unfoldable pub after_settlement : Message → Item → Bool → Outstanding → Outstanding
after_settlement message (items.Call call target method value) lost work = if lost then work else make_ready message work
after_settlement message (items.Reply call status value) lost work = if lost then make_reply (lost_reply message call) work else make_reply message work
after_settlement message (items.Settle item) lost work = work
after_settlement message (items.Dirty index) lost work = work
after_settlement message (items.DirtyOk index) lost work = work
after_settlement message (items.DirtyNo index) lost work = work
after_settlement message (items.Clean index) lost work = work

-- without the first message that waits and came from p in item k
abbrev pub without_waiting : (p k : ℕ) → Outstanding → Outstanding
without_waiting p k work = record { waiting = without_first (is_of p k) work.waiting; ready = work.ready; running = work.running; replies = work.replies; calls = work.calls }

-- after Settle of a message, if there is one that waits
unfoldable pub after_settle : (s n p k : ℕ) → List Deed → Option Message → Outstanding → Outstanding
after_settle s n p k D None work = work
after_settle s n p k D (Some message) work = after_settlement message message.item (is_lost_message s n D message) (without_waiting p k work)

-- without the first ready job that has the contents of one
abbrev pub without_ready : Job → Outstanding → Outstanding
without_ready job work = record { waiting = work.waiting; ready = without_first (is_job job) work.ready; running = work.running; replies = work.replies; calls = work.calls }

-- a job that runs: the newest claimed stands first
abbrev pub start : ℕ → Message → Outstanding → Outstanding
start j message work = record { waiting = work.waiting; ready = work.ready; running = record { job = j; message = message } ∷ work.running; replies = work.replies; calls = work.calls }

-- after Claim of a job, if a ready one has its contents
unfoldable pub after_claim : Job → Option Message → Outstanding → Outstanding
after_claim job None work = work
after_claim job (Some message) work = start job.job message (without_ready job work)

-- after the end of a job: none of its number runs
unfoldable pub after_finish : ℕ → Outstanding → Outstanding
after_finish j work = record { waiting = work.waiting; ready = work.ready; running = filter (λ run. not (is_run j run)) work.running; replies = work.replies; calls = work.calls }

-- whether a message isn't a Reply to call k
abbrev pub is_not_reply : ℕ → Message → Bool
is_not_reply k message = not (replies_to k message.item)

-- after the reply to call k was taken: the Replies to it are over, and so is the call
unfoldable pub after_take : ℕ → Outstanding → Outstanding
after_take k work = record { waiting = filter (is_not_reply k) work.waiting; ready = work.ready; running = work.running; replies = filter (is_not_reply k) work.replies; calls = filter (λ own. not (is_call k own)) work.calls }

-- after it was told that there will be no reply to call k
unfoldable pub after_end : ℕ → Outstanding → Outstanding
after_end k work = record { waiting = work.waiting; ready = work.ready; running = work.running; replies = work.replies; calls = filter (λ own. not (is_call k own)) work.calls }

-- after a call was made
unfoldable pub after_call : (p k : ℕ) → Outstanding → Outstanding
after_call p k work = record { waiting = work.waiting; ready = work.ready; running = work.running; replies = work.replies; calls = work.calls ++ record { call = k; to = p; stage = stages.Sent } ∷ [] }

-- after the session with p closed: its waiting messages and ready jobs are gone, calls without a ready reply end; what runs goes on
unfoldable pub after_close : ℕ → Outstanding → Outstanding
after_close p work = record { waiting = filter (is_not_from p) work.waiting; ready = filter (is_not_from p) work.ready; running = work.running; replies = work.replies; calls = map (call_after_close p work.replies) work.calls }

-- what is outstanding after a deed, by what was outstanding before, the loans aside
unfoldable pub work_after : (s n : ℕ) → Deed → List Deed → Outstanding → Outstanding
work_after s n (Call target method value call) D work = after_call target.owner call work
work_after s n (TakeReply call status value) D work = after_take call work
work_after s n (TakeEnd call) D work = after_end call work
work_after s n (Claim job) D work = after_claim job (find (is_job job) work.ready) work
work_after s n (Finish job outcome) D work = after_finish job work
work_after s n (DropReply job) D work = after_finish job work
work_after s n (Act p k) D work = after_act s n p k D (item_at p k D) work
work_after s n (Settle p k) D work = after_settle s n p k D (find (is_of p k) work.waiting) work
work_after s n (Closing p reason cause) D work = after_close p work
work_after s n (_) D work = work

-- the message of a job that runs, after a deed
unfoldable pub run_after : (s n : ℕ) → List Deed → Run → Run
run_after s n D run = record { job = run.job; message = message_after s n D run.message }

-- the loans made that can be made now
unfoldable pub with_loans : (s n : ℕ) → List Deed → Outstanding → Outstanding
with_loans s n D work = record { waiting = map (λ message. message_after s n D message) work.waiting; ready = map (λ message. message_after s n D message) work.ready; running = map (λ run. run_after s n D run) work.running; replies = map (λ message. message_after s n D message) work.replies; calls = work.calls }

-- the outstanding work at space s among n
abbrev pub work : (s n : ℕ) → List Deed → Outstanding
work s n [] = no_work
work s n (deed ∷ D) = with_loans s n (deed ∷ D) (work_after s n deed D (work s n D))
