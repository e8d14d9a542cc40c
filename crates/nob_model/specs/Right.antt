-- The one right answer to each event, by the history of the space.
use Rattle.std.specs.Prelude.{◌≡◌, ℕ, ◌+◌, ◌-◌, ◌^◌, Bool, true, false, ◌&&◌, ◌||◌, ◌==◌, not, nat_le, nat_lt, List, [], ◌∷◌, length, map, filter, find, Option, Some, None, Result, Ok, Err, if◌then◌else◌}
use Rattle.std.specs.List.{list_any, list_all}
use Rattle.nob_ids.specs.Names.{is_counted}
use Rattle.nob_ids.specs.declared.limits.Limits.{Limits}
use Rattle.nob_ids.specs.declared.reason.Reason.{Reason}
use Rattle.nob_ids.specs.declared.reason.Reason.TheVariants.{Asked}
use Rattle.nob_ids.specs.declared.wire_rep.WireRep.{WireRep}
use Rattle.nob_frame.specs.declared.frame.Frame.{Frame}
use Rattle.nob_pickle.specs.Spelling.{refs_in}
use Rattle.nob_pickle.specs.declared.value.Value.{Value}
use Rattle.nob_pickle.specs.declared.value.Value.TheVariants as values
use Rattle.nob_item.specs.declared.item.Item.{Item}
use Rattle.nob_item.specs.declared.item.Item.TheVariants as items
use Rattle.nob_model_session.specs.Right.{right_transmit, right_arrive, right_front, right_tick, right_close}
use Rattle.nob_model_session.specs.declared.entry.Kind.TheVariants.{Limited}
use Rattle.nob_model_session.specs.declared.entry.Ending.{Ending}
use Rattle.nob_model_session.specs.declared.entry.Arrived.{Arrived}
use Rattle.nob_model_session.specs.declared.entry.Arrived.TheVariants as arrived
use Rattle.nob_model_session.specs.declared.refusal.EndRefusal.{EndRefusal}
use Rattle.nob_model_types.specs.declared.event.Event.{Event}
use Rattle.nob_model_types.specs.declared.event.Event.TheVariants as events
use Rattle.nob_model_types.specs.declared.event.Outcome.{Outcome}
use Rattle.nob_model_types.specs.declared.answer.Answer.{Answer}
use Rattle.nob_model_types.specs.declared.answer.Answer.TheVariants as answers
use Rattle.nob_model_types.specs.declared.refusal.Refusal.{Refusal}
use Rattle.nob_model_types.specs.declared.refusal.Refusal.TheVariants as refusals
use Rattle.nob_model_types.specs.declared.refusal.Use.TheVariants as uses
use Rattle.nob_model_types.specs.declared.entry.Entry.{Entry}
use Rattle.nob_model_types.specs.declared.deed.Deed.{Deed}
use Rattle.nob_model_types.specs.declared.deed.Deed.TheVariants.{Call, Claim}
use Rattle.nob_model_types.specs.Deeds.{deeds}
use Rattle.nob_model_types.specs.Sessions.{is_peer, closed, number, item_spelt}
use Rattle.nob_model_types.specs.Objects.{exports, is_live, live}
use Rattle.nob_model_types.specs.Turns.{is_own, is_resolved}
use Rattle.nob_model_types.specs.declared.message.Message.{Message}
use Rattle.nob_model_work.specs.declared.work.Run.{Run}
use Rattle.nob_model_work.specs.declared.work.Stage.{Stage}
use Rattle.nob_model_work.specs.declared.work.Stage.TheVariants as stages
use Rattle.nob_model_work.specs.declared.work.OwnCall.{OwnCall}
use Rattle.nob_model_work.specs.declared.work.Outstanding.{Outstanding}
use Rattle.nob_model_types.specs.Messages.{is_lost_message, replies_to}
use Rattle.nob_model_work.specs.Work.{is_call, is_run}
use Rattle.nob_model_work.specs.Gifts.{value_of}
use Rattle.nob_model_history.specs.declared.history.History.{History}
use Rattle.nob_model_history.specs.Histories.{history}
use Rattle.nob_model_history.specs.Ends.{calls_at}
use Rattle.nob_model_history.specs.Holds.{times, hand, is_held}
use Rattle.nob_model_history.specs.Transit.{pins, first_idle}
use Rattle.nob_model_history.specs.Listing.{is_any_listed}
use Rattle.nob_model_acting.specs.Sending.{◌or_else◌, refuse_if, is_gone, value_refused, send_refused, has_numbers, unless}
use Rattle.nob_model_acting.specs.Acting.{act_on}
use Rattle.nob_model_acting.specs.Candidates.{to_settle, to_clean, to_claim}
use Rattle.nob_model.specs.Opening.{right_open}

-- so many live objects and no more
abbrev pub most_objects : ℕ
most_objects = 2 ^ 16

-- the greatest index, and the greatest number of a call and of a job
abbrev pub last_number : ℕ
last_number = 2 ^ 48

-- so many calls that aren't taken and no more
abbrev pub most_calls : ℕ
most_calls = 4096

-- the greatest hand
abbrev pub greatest_hand : ℕ
greatest_hand = 2 ^ 32 - 1

-- Export: the reference of the next index, unless a space has all the live objects or indexes that it may have
unfoldable pub right_export : ℕ → History → Result Answer Refusal
right_export s h = unless (refuse_if (nat_le most_objects (length (live s h.deeds)) || nat_le last_number (length (exports h.deeds))) refusals.Limit) (answers.Exported (record { owner = s; index = length (exports h.deeds) + 1 }))

-- Dup: done, unless the reference names an object that isn't live, isn't held, its owner's session has closed here, or the hand is full
unfoldable pub right_dup : ℕ → WireRep → History → Result Answer Refusal
right_dup s rep h = unless (refuse_if (is_counted rep && is_gone s rep h) refusals.NoObject or_else refuse_if (not (is_counted rep) || not (is_held s rep h)) refusals.NotHeld or_else refuse_if (not (is_own s rep) && closed rep.owner h.deeds) refusals.Closed or_else refuse_if (nat_le greatest_hand (hand rep h.deeds)) refusals.Limit) answers.Done

-- Release: done, unless the reference names an object that isn't live, or none of it is in the hand
unfoldable pub right_release : ℕ → WireRep → History → Result Answer Refusal
right_release s rep h = unless (refuse_if (is_counted rep && is_gone s rep h) refusals.NoObject or_else refuse_if (not (is_counted rep) || hand rep h.deeds == 0) refusals.NotHeld) answers.Done

-- how many calls were made
abbrev pub calls_made : List Deed → ℕ
calls_made [] = 0
calls_made (Call target method value call ∷ D) = calls_made D + 1
calls_made (_ ∷ D) = calls_made D

-- whether one call more would pass a limit
abbrev pub is_last_call : History → Bool
is_last_call h = nat_le most_calls (length h.work.calls) || nat_le last_number (calls_made h.deeds)

-- Call: the call's number, unless there is no peer, it closed here, the target isn't held, a value or limit forbids, or the session is full
unfoldable pub right_call : (s n : ℕ) → WireRep → Value → History → Result Answer Refusal
right_call s n target value h = unless (refuse_if (not (is_peer s n target.owner)) refusals.NoPeer or_else refuse_if (closed target.owner h.deeds) refusals.Closed or_else refuse_if (is_counted target && not (is_held s target h)) refusals.NotHeld or_else value_refused s h value or_else refuse_if (is_last_call h) refusals.Limit or_else send_refused target.owner Limited h) (answers.Called (calls_made h.deeds + 1))

-- whether a hand would pass its limit by the references in a value that is taken
abbrev pub is_handful : Value → History → Bool
is_handful value h = list_any (λ rep. nat_lt greatest_hand (hand rep h.deeds + times rep (filter is_counted (refs_in value)))) (filter is_counted (refs_in value))

-- what is answered where this item is the ready reply
unfoldable pub answer_of_reply : Item → History → Result Answer Refusal
answer_of_reply (items.Reply call status value) h = unless (refuse_if (is_handful value h) refusals.Limit) (answers.Replied status value)
answer_of_reply (items.Call call target method value) h = Err refusals.NotReady
answer_of_reply (items.Settle item) h = Err refusals.NotReady
answer_of_reply (items.Dirty index) h = Err refusals.NotReady
answer_of_reply (items.DirtyOk index) h = Err refusals.NotReady
answer_of_reply (items.DirtyNo index) h = Err refusals.NotReady
answer_of_reply (items.Clean index) h = Err refusals.NotReady

-- what is answered where no reply is ready: the call ended, or it isn't ready
abbrev pub answer_of_stage : Stage → Result Answer Refusal
answer_of_stage stages.Sent = Err refusals.NotReady
answer_of_stage stages.Answered = Err refusals.NotReady
answer_of_stage stages.Ended = Ok answers.Ended

-- what is answered for a call, by its ready reply if there is one
unfoldable pub answer_of_call : OwnCall → Option Message → History → Result Answer Refusal
answer_of_call own (Some message) h = answer_of_reply message.item h
answer_of_call own None h = answer_of_stage own.stage

-- what is answered for a call, if there is one
unfoldable pub take_of : ℕ → Option OwnCall → History → Result Answer Refusal
take_of k None h = Err refusals.NoCall
take_of k (Some own) h = answer_of_call own (find (λ message. replies_to k message.item) h.work.replies) h

-- TakeReply: the status and the value of the ready reply, or that there will be none
unfoldable pub right_take_reply : ℕ → History → Result Answer Refusal
right_take_reply k h = take_of k (find (is_call k) h.work.calls) h

-- how many jobs were claimed
abbrev pub jobs_made : List Deed → ℕ
jobs_made [] = 0
jobs_made (Claim job ∷ D) = jobs_made D + 1
jobs_made (_ ∷ D) = jobs_made D

-- the job of this number that an item from p is
unfoldable pub job_of : (j p : ℕ) → Item → Result Answer Refusal
job_of j p (items.Call call target method value) = Ok (answers.Job (record { job = j; call = call; target = target; client = p; method = method; value = value }))
job_of j p (items.Reply call status value) = Err refusals.Nothing
job_of j p (items.Settle item) = Err refusals.Nothing
job_of j p (items.Dirty index) = Err refusals.Nothing
job_of j p (items.DirtyOk index) = Err refusals.Nothing
job_of j p (items.DirtyNo index) = Err refusals.Nothing
job_of j p (items.Clean index) = Err refusals.Nothing

-- what is answered where this is the message to claim, if there is one
unfoldable pub claim_of : ℕ → Option Message → Result Answer Refusal
claim_of made None = Err refusals.Nothing
claim_of made (Some message) = if nat_le last_number made then Err refusals.Limit else job_of (made + 1) message.from message.item

-- Claim: the first ready job whose target isn't running
unfoldable pub right_claim : History → Result Answer Refusal
right_claim h = claim_of (jobs_made h.deeds) (to_claim h)

-- whether the session in which a message came has ended here: it has closed, or there is another one now
abbrev pub has_ended : Message → History → Bool
has_ended message h = closed message.from h.deeds || not (message.session == number message.from h.deeds)

-- what is answered to the end of a job, if it runs
unfoldable pub finish_of : ℕ → Outcome → Option Run → History → Result Answer Refusal
finish_of s outcome None h = Err refusals.NoJob
finish_of s outcome (Some run) h = if has_ended run.message h then Ok answers.Dropped else unless (value_refused s h (value_of outcome) or_else send_refused run.message.from Limited h) answers.Finished

-- Finish: the reply is handed on, or dropped where the session of its Call has closed, unless the job isn't running or its reply may not be sent
unfoldable pub right_finish : (s job : ℕ) → Outcome → History → Result Answer Refusal
right_finish s job outcome h = finish_of s outcome (find (is_run job) h.work.running) h

-- what is answered where this is the front of the inbox, if there is one
unfoldable pub act_of : (s n p : ℕ) → Option (ℕ × List ℕ) → History → Result Answer Refusal
act_of s n p None h = Err refusals.Nothing
act_of s n p (Some front) h = act_on s n p front.0 (item_spelt front.1) h

-- Act: the front of the inbox is acted on, unless there is no such peer, its session has closed here, or its inbox is empty
unfoldable pub right_act : (s n p : ℕ) → History → Result Answer Refusal
right_act s n p h = if not (is_peer s n p) then Err refusals.NoPeer else if closed p h.deeds then Err refusals.Closed else act_of s n p (right_front (calls_at p h)) h

-- how many items settling a message gives: the Reply to a lost Call too
abbrev pub settle_count : (s n : ℕ) → Message → Item → History → ℕ
settle_count s n message (items.Call call target method value) h = if is_lost_message s n h.deeds message then 2 else 1
settle_count s n message (items.Reply call status value) h = 1
settle_count s n message (items.Settle item) h = 1
settle_count s n message (items.Dirty index) h = 1
settle_count s n message (items.DirtyOk index) h = 1
settle_count s n message (items.DirtyNo index) h = 1
settle_count s n message (items.Clean index) h = 1

-- what is answered where this is the message to settle, if there is one
unfoldable pub settle_of : (s n : ℕ) → Option Message → History → Result Answer Refusal
settle_of s n None h = Err refusals.Nothing
settle_of s n (Some message) h = if has_numbers message.from (settle_count s n message message.item h) h then Ok (answers.Settled message.from message.number) else Err refusals.SeqEnd

-- Settle: the first message, in order of acting, whose references are all resolved
unfoldable pub right_settle : (s n : ℕ) → History → Result Answer Refusal
right_settle s n h = settle_of s n (to_settle s n h) h

-- what is answered where this is the reference to clean, if there is one
unfoldable pub clean_of : Option WireRep → History → Result Answer Refusal
clean_of None h = Err refusals.Nothing
clean_of (Some rep) h = if has_numbers rep.owner 1 h then Ok (answers.Cleaned rep) else Err refusals.SeqEnd

-- Clean: the first surrogate that can be given up
unfoldable pub right_clean : (s n : ℕ) → History → Result Answer Refusal
right_clean s n h = clean_of (to_clean s n h) h

-- the reference to an own object
abbrev pub own_ref : (s index : ℕ) → WireRep
own_ref s index = record { owner = s; index = index }

-- why an object isn't withdrawn: it is the agent, isn't live, has holds or pins, or somebody is listed for it
unfoldable pub withdraw_refused : (s index : ℕ) → History → Option Refusal
withdraw_refused s index h = refuse_if (index == 0) (refusals.StillUsed uses.Agent) or_else refuse_if (not (is_live s index h.deeds)) refusals.NoObject or_else refuse_if (is_held s (own_ref s index) h) (refusals.StillUsed uses.Held) or_else refuse_if (not (pins (own_ref s index) h == 0)) (refusals.StillUsed uses.InTransit) or_else refuse_if (is_any_listed s index h.deeds) (refusals.StillUsed uses.Listed)

-- Withdraw: exactly if it isn't the agent, is live, has no holds, no pins, and nobody is listed
unfoldable pub right_withdraw : (s index : ℕ) → History → Result Answer Refusal
right_withdraw s index h = unless (withdraw_refused s index h) answers.Withdrawn

-- Transmit: the frames that the end with a peer gives
unfoldable pub right_frames : (s n p window : ℕ) → History → Result Answer Refusal
right_frames s n p window h = if not (is_peer s n p) then Err refusals.NoPeer else Ok (answers.Frames (right_transmit s p window (calls_at p h)))

-- what an arriving frame did, as the space's answer
abbrev pub arrival_of : Result Arrived EndRefusal → Result Answer Refusal
arrival_of (Ok (arrived.Took count)) = Ok (answers.Took count)
arrival_of (Ok (arrived.Closed ending)) = Ok (answers.Closed ending.reason)
arrival_of (Err refusal) = Err refusals.NoPeer

-- Arrive: a frame that isn't for this space, or from no peer, is refused
unfoldable pub right_arrival : (s n : ℕ) → Frame → History → Result Answer Refusal
right_arrival s n frame h = if not (frame.to == s) || not (is_peer s n frame.from) then Err refusals.NoPeer else arrival_of (right_arrive s frame.from frame (calls_at frame.from h))

-- what a tick did, as the space's answer
abbrev pub tick_of : Result (Option Ending) EndRefusal → Result Answer Refusal
tick_of (Ok None) = Ok answers.Done
tick_of (Ok (Some ending)) = Ok (answers.Closed ending.reason)
tick_of (Err refusal) = Err refusals.Closed

-- Tick: the session with a peer counts one tick more, which may close it
unfoldable pub right_ticks : (s n p retry : ℕ) → History → Result Answer Refusal
right_ticks s n p retry h = if not (is_peer s n p) then Err refusals.NoPeer else tick_of (right_tick p retry (calls_at p h))

-- what a close did, as the space's answer
abbrev pub closing_of : Result Ending EndRefusal → Result Answer Refusal
closing_of (Ok ending) = Ok (answers.Closed ending.reason)
closing_of (Err refusal) = Err refusals.Closed

-- Close: the session with a peer closes because it was asked to
unfoldable pub right_closing : (s n p : ℕ) → History → Result Answer Refusal
right_closing s n p h = if not (is_peer s n p) then Err refusals.NoPeer else closing_of (right_close p Asked (calls_at p h))

-- the one right answer of space s among n, with these limits, after a history
unfoldable pub right_after : (s n : ℕ) → Limits → History → Event → Result Answer Refusal
right_after s n limits h events.Export = right_export s h
right_after s n limits h (events.Dup rep) = right_dup s rep h
right_after s n limits h (events.Release rep) = right_release s rep h
right_after s n limits h (events.Call target method value) = right_call s n target value h
right_after s n limits h (events.TakeReply call) = right_take_reply call h
right_after s n limits h events.Claim = right_claim h
right_after s n limits h (events.Finish job outcome) = right_finish s job outcome h
right_after s n limits h (events.Act p) = right_act s n p h
right_after s n limits h events.Settle = right_settle s n h
right_after s n limits h events.Clean = right_clean s n h
right_after s n limits h (events.Withdraw index) = right_withdraw s index h
right_after s n limits h (events.Transmit p) = right_frames s n p limits.window h
right_after s n limits h (events.Arrive frame) = right_arrival s n frame h
right_after s n limits h (events.Tick p) = right_ticks s n p limits.retry h
right_after s n limits h (events.Close p) = right_closing s n p h
right_after s n limits h (events.Open p) = right_open s n p h

-- the one right answer of space s among n, with these limits, after the entries of its list
abbrev pub right : (s n : ℕ) → Limits → List Entry → Event → Result Answer Refusal
right s n limits L event = right_after s n limits (history s n L) event

-- an entry's result is the right one after the entries before
abbrev pub IsRight : (s n : ℕ) → Limits → Entry → List Entry → Type 0
IsRight s n limits entry L = entry.result ≡ right s n limits L entry.event
