-- What a right answer that is no refusal tells of the history before, event by event.
use Rattle.std.proofs.Common.{◌≡◌, ℕ, ◌+◌, ◌≤◌, ◌&&◌, ◌||◌, not, Bool, true, false, cond, List, [], ◌∷◌, length, find, Option, Some, None, Result, Ok, Err, refl, sym, ap, subst, ◌∙◌}
use Rattle.std.specs.Prelude.{◌==◌, nat_le, nat_lt}
use Rattle.std.proofs.lemmas.Bool.{eqb-true, not-false, or_parts, ltb-false}
use Rattle.nob_ids.specs.Names.{is_counted}
use Rattle.nob_ids.specs.declared.reason.Reason.{Reason}
use Rattle.nob_ids.specs.declared.reason.Reason.TheVariants.{BadItem, Asked}
use Rattle.nob_ids.specs.declared.wire_rep.WireRep.{WireRep}
use Rattle.nob_frame.specs.declared.frame.Frame.{Frame}
use Rattle.nob_pickle.specs.declared.value.Value.{Value}
use Rattle.nob_item.specs.declared.item.Item.{Item}
use Rattle.nob_item.specs.declared.item.Item.TheVariants as items
use Rattle.nob_model_session.specs.End.{last_session}
use Rattle.nob_model_session.specs.Right.{right_transmit, right_arrive, right_front, right_tick, right_close}
use Rattle.nob_model_session.specs.declared.entry.Kind.TheVariants.{Limited}
use Rattle.nob_model_session.specs.declared.entry.Ending.{Ending}
use Rattle.nob_model_session.specs.declared.entry.Arrived.{Arrived}
use Rattle.nob_model_session.specs.declared.entry.Arrived.TheVariants as arrived
use Rattle.nob_model_session.specs.declared.refusal.EndRefusal.{EndRefusal}
use Rattle.nob_model_types.specs.declared.event.Outcome.{Outcome}
use Rattle.nob_model_types.specs.declared.answer.Job.{Job}
use Rattle.nob_model_types.specs.declared.answer.Answer.{Answer}
use Rattle.nob_model_types.specs.declared.answer.Answer.TheVariants as answers
use Rattle.nob_model_types.specs.declared.refusal.Refusal.{Refusal}
use Rattle.nob_model_types.specs.declared.refusal.Refusal.TheVariants as refusals
use Rattle.nob_model_types.specs.declared.refusal.Use.TheVariants as uses
use Rattle.nob_model_types.specs.Sessions.{is_peer, closed, number, item_spelt}
use Rattle.nob_model_types.specs.Objects.{exports, is_live, live}
use Rattle.nob_model_types.specs.Turns.{is_own}
use Rattle.nob_model_types.specs.Messages.{replies_to}
use Rattle.nob_model_types.specs.declared.message.Message.{Message}
use Rattle.nob_model_work.specs.Work.{is_call, is_run}
use Rattle.nob_model_work.specs.Gifts.{value_of}
use Rattle.nob_model_work.specs.declared.work.Run.{Run}
use Rattle.nob_model_work.specs.declared.work.Stage.{Stage}
use Rattle.nob_model_work.specs.declared.work.Stage.TheVariants as stages
use Rattle.nob_model_work.specs.declared.work.OwnCall.{OwnCall}
use Rattle.nob_model_history.specs.declared.history.History.{History}
use Rattle.nob_model_history.specs.Ends.{calls_at}
use Rattle.nob_model_history.specs.Holds.{hand, is_held}
use Rattle.nob_model_history.specs.Transit.{pins}
use Rattle.nob_model_history.specs.Listing.{is_any_listed}
use Rattle.nob_model_acting.specs.Sending.{◌or_else◌, refuse_if, value_refused, send_refused, has_numbers, unless, is_gone}
use Rattle.nob_model_acting.specs.Acting.{fault_of, act_refusal, answer_of_act, act_on}
use Rattle.nob_model_acting.specs.Candidates.{to_settle, to_clean, to_claim}
use Rattle.nob_model.specs.Opening.{still_held, next_number, open_refused, right_open}
use Rattle.nob_model.specs.Right.{most_objects, last_number, greatest_hand, right_export, right_dup, right_release, calls_made, is_last_call, right_call, is_handful, answer_of_reply, answer_of_stage, answer_of_call, take_of, right_take_reply, jobs_made, job_of, claim_of, right_claim, has_ended, finish_of, right_finish, act_of, right_act, settle_count, settle_of, right_settle, clean_of, right_clean, own_ref, withdraw_refused, right_withdraw, right_frames, arrival_of, right_arrival, tick_of, right_ticks, closing_of, right_closing}

-- ---- results

-- a result that is an answer
abbrev pub accepted : Answer → Result Answer Refusal
accepted a = Ok a

ok_same : (a b : Answer) → accepted a ≡ Ok b → a ≡ b
ok_same a b e = cc

pub err_ok : (refusal : Refusal) (a : Answer) → Err refusal ≡ accepted a → ⊥
err_ok refusal a e = cc

some_none : (refusal : Refusal) → Some refusal ≡ None → ⊥
some_none refusal e = cc

-- what isn't refused has no refusal and is the answer
unless_ok : (refusal : Option Refusal) (a b : Answer) → unless refusal a ≡ Ok b → (refusal ≡ None) × (a ≡ b)
unless_ok (Some refusal) a b e = absurd (err_ok refusal b e)
unless_ok None a b e = (refl, ok_same a b e)

both_none : (a b : Option Refusal) → (a or_else b) ≡ None → (a ≡ None) × (b ≡ None)
both_none (Some refusal) b e = absurd (some_none refusal e)
both_none None b e = (refl, e)

test_false : (test : Bool) (refusal : Refusal) → refuse_if test refusal ≡ None → test ≡ false
test_false true refusal e = absurd (some_none refusal e)
test_false false refusal e = refl

-- a test that refuses, and then the others
next_none : (test : Bool) (refusal : Refusal) (rest : Option Refusal) → (refuse_if test refusal or_else rest) ≡ None → (test ≡ false) × (rest ≡ None)
next_none true refusal rest e = absurd (some_none refusal e)
next_none false refusal rest e = (refl, e)

-- a test that refuses, and then a result
guard_ok : (test : Bool) (refusal : Refusal) (rest : Result Answer Refusal) (a : Answer) → cond test (Err refusal) rest ≡ Ok a → (test ≡ false) × (rest ≡ Ok a)
guard_ok true refusal rest a e = absurd (err_ok refusal a e)
guard_ok false refusal rest a e = (refl, e)

-- a test without which there is a refusal
where_ok : (test : Bool) (refusal : Refusal) (a b : Answer) → cond test (Ok a) (Err refusal) ≡ Ok b → (test ≡ true) × (a ≡ b)
where_ok true refusal a b e = (refl, ok_same a b e)
where_ok false refusal a b e = absurd (err_ok refusal b e)

-- ---- objects and holds

-- an Export that was answered: the next index, below the limits
pub export_tells : (s : ℕ) (rep : WireRep) (h : History) → right_export s h ≡ Ok (answers.Exported rep) → (rep ≡ record { owner = s; index = length (exports h.deeds) + 1 }) × ((nat_le most_objects (length (live s h.deeds)) || nat_le last_number (length (exports h.deeds))) ≡ false)
unfolding right_export
export_tells s rep h e =
    let next : WireRep = record { owner = s; index = length (exports h.deeds) + 1 } in
    let is_full : Bool = nat_le most_objects (length (live s h.deeds)) || nat_le last_number (length (exports h.deeds)) in
    let parts = unless_ok (refuse_if is_full refusals.Limit) (answers.Exported next) (answers.Exported rep) e in
    (sym (same_ref next rep parts.1), test_false is_full refusals.Limit parts.0)
  where
    same_ref : (a b : WireRep) → answers.Exported a ≡ answers.Exported b → a ≡ b
    same_ref a b e = cc

-- a Dup that was done: a counted reference that is held, not to an own object that isn't live, nor to one of a session that has closed
pub dup_tells : (s : ℕ) (rep : WireRep) (h : History) → right_dup s rep h ≡ Ok answers.Done → (is_counted rep ≡ true) × (is_held s rep h ≡ true) × ((is_counted rep && is_gone s rep h) ≡ false) × ((not (is_own s rep) && closed rep.owner h.deeds) ≡ false) × (nat_le greatest_hand (hand rep h.deeds) ≡ false)
unfolding right_dup
dup_tells s rep h e =
    let none = (unless_ok _ _ _ e).0 in
    let alive = next_none (is_counted rep && is_gone s rep h) refusals.NoObject _ none in
    let held = next_none (not (is_counted rep) || not (is_held s rep h)) refusals.NotHeld _ alive.1 in
    let up = next_none (not (is_own s rep) && closed rep.owner h.deeds) refusals.Closed _ held.1 in
    let kept = or_parts (not (is_counted rep)) (not (is_held s rep h)) held.0 in
    (not-false _ kept.0, not-false _ kept.1, alive.0, up.0, test_false _ refusals.Limit up.1)

-- a Release that was done: of a counted reference that is in the hand
pub release_tells : (s : ℕ) (rep : WireRep) (h : History) → right_release s rep h ≡ Ok answers.Done → (is_counted rep ≡ true) × ((hand rep h.deeds == 0) ≡ false) × ((is_counted rep && is_gone s rep h) ≡ false)
unfolding right_release
release_tells s rep h e =
    let none = (unless_ok _ _ _ e).0 in
    let alive = next_none (is_counted rep && is_gone s rep h) refusals.NoObject _ none in
    let kept = or_parts (not (is_counted rep)) (hand rep h.deeds == 0) (test_false _ refusals.NotHeld alive.1) in
    (not-false _ kept.0, kept.1, alive.0)

-- a Withdraw that was done: of an object that is live, isn't the agent, and has no holds, no pins, and nobody listed for it
pub withdraw_tells : (s index : ℕ) (h : History) → right_withdraw s index h ≡ Ok answers.Withdrawn → ((index == 0) ≡ false) × (is_live s index h.deeds ≡ true) × (is_held s (own_ref s index) h ≡ false) × ((pins (own_ref s index) h == 0) ≡ true) × (is_any_listed s index h.deeds ≡ false)
unfolding right_withdraw withdraw_refused
withdraw_tells s index h e =
    let none = (unless_ok _ _ _ e).0 in
    let counted = next_none (index == 0) (refusals.StillUsed uses.Agent) _ none in
    let alive = next_none (not (is_live s index h.deeds)) refusals.NoObject _ counted.1 in
    let free = next_none (is_held s (own_ref s index) h) (refusals.StillUsed uses.Held) _ alive.1 in
    let settled = next_none (not (pins (own_ref s index) h == 0)) (refusals.StillUsed uses.InTransit) _ free.1 in
    (counted.0, not-false _ alive.0, free.0, not-false _ settled.0, test_false _ (refusals.StillUsed uses.Listed) settled.1)

-- ---- calls and jobs

called_same : (a b : ℕ) → answers.Called a ≡ answers.Called b → a ≡ b
called_same a b e = cc

-- a Call that was made: to a peer on an open session, of a target that is held, with a value that may be sent, below the limits; its number is the next
pub call_tells : (s n : ℕ) (target : WireRep) (value : Value) (call : ℕ) (h : History) → right_call s n target value h ≡ Ok (answers.Called call) → (call ≡ calls_made h.deeds + 1) × (is_peer s n target.owner ≡ true) × (closed target.owner h.deeds ≡ false) × ((is_counted target && not (is_held s target h)) ≡ false) × (value_refused s h value ≡ None) × (is_last_call h ≡ false) × (send_refused target.owner Limited h ≡ None)
unfolding right_call
call_tells s n target value call h e =
    let parts = unless_ok _ (answers.Called (calls_made h.deeds + 1)) (answers.Called call) e in
    let peer = next_none (not (is_peer s n target.owner)) refusals.NoPeer _ parts.0 in
    let up = next_none (closed target.owner h.deeds) refusals.Closed _ peer.1 in
    let held = next_none (is_counted target && not (is_held s target h)) refusals.NotHeld _ up.1 in
    let whole = both_none (value_refused s h value) _ held.1 in
    let few = next_none (is_last_call h) refusals.Limit _ whole.1 in
    (sym (called_same _ _ parts.1), not-false _ peer.0, up.0, held.0, whole.0, few.0, few.1)

-- what a search finds passes the test
pub found_passes : {A : Type 0} (test : A → Bool) (xs : List A) (x : A) → find test xs ≡ Some x → test x ≡ true
found_passes test [] x found = absurd (no_some x found)
  where
    no_some : {A : Type 0} (x : A) → None ≡ Some x → ⊥
    no_some x e = cc
found_passes test (y ∷ ys) x found = passes_step test x y (find test ys) (found_passes test ys x) (test y) refl found
  where
    some_same : {A : Type 0} (x y : A) → Some x ≡ Some y → x ≡ y
    some_same x y e = cc

    passes_step : {A : Type 0} (test : A → Bool) (x y : A) (rest : Option A) → (rest ≡ Some x → test x ≡ true) → (b : Bool) → test y ≡ b → cond b (Some y) rest ≡ Some x → test x ≡ true
    passes_step test x y rest behind true is found = ap test (sym (some_same y x found)) ∙ is
    passes_step test x y rest behind false is found = behind found

reply_tells : (status : ℕ) (value : Value) (item : Item) (h : History) → answer_of_reply item h ≡ Ok (answers.Replied status value) → (call : ℕ) × (item ≡ items.Reply call status value) × (is_handful value h ≡ false)
unfolding answer_of_reply
reply_tells status value (items.Reply call own_status own_value) h e =
    let parts = unless_ok (refuse_if (is_handful own_value h) refusals.Limit) (answers.Replied own_status own_value) (answers.Replied status value) e in
    let values_same = replied_value own_status status own_value value parts.1 in (
      call,
      ap (λ (st : ℕ). items.Reply call st own_value) (replied_status own_status status own_value value parts.1) ∙ ap (λ (v : Value). items.Reply call status v) values_same,
      subst (λ (v : Value). is_handful v h ≡ false) values_same (test_false (is_handful own_value h) refusals.Limit parts.0),
    )
  where
    replied_status : (a b : ℕ) (v w : Value) → answers.Replied a v ≡ answers.Replied b w → a ≡ b
    replied_status a b v w e = cc

    replied_value : (a b : ℕ) (v w : Value) → answers.Replied a v ≡ answers.Replied b w → v ≡ w
    replied_value a b v w e = cc
reply_tells status value (items.Call call target method argument) h e = absurd (err_ok refusals.NotReady (answers.Replied status value) e)
reply_tells status value (items.Settle item) h e = absurd (err_ok refusals.NotReady (answers.Replied status value) e)
reply_tells status value (items.Dirty index) h e = absurd (err_ok refusals.NotReady (answers.Replied status value) e)
reply_tells status value (items.DirtyOk index) h e = absurd (err_ok refusals.NotReady (answers.Replied status value) e)
reply_tells status value (items.DirtyNo index) h e = absurd (err_ok refusals.NotReady (answers.Replied status value) e)
reply_tells status value (items.Clean index) h e = absurd (err_ok refusals.NotReady (answers.Replied status value) e)

stage_replied : (status : ℕ) (value : Value) (stage : Stage) → answer_of_stage stage ≡ Ok (answers.Replied status value) → ⊥
stage_replied status value stages.Sent e = err_ok refusals.NotReady (answers.Replied status value) e
stage_replied status value stages.Answered e = err_ok refusals.NotReady (answers.Replied status value) e
stage_replied status value stages.Ended e = let clash : answers.Ended ≡ answers.Replied status value = ok_same _ _ e in absurd (cc)

call_replied : (status : ℕ) (value : Value) (own : OwnCall) (found : Option Message) (h : History) → answer_of_call own found h ≡ Ok (answers.Replied status value) → (message : Message) × (found ≡ Some message) × (answer_of_reply message.item h ≡ Ok (answers.Replied status value))
unfolding answer_of_call
call_replied status value own (Some message) h e = (message, refl, e)
call_replied status value own None h e = absurd (stage_replied status value own.stage e)

taken_of : (k : ℕ) (a : Answer) (found : Option OwnCall) (h : History) → take_of k found h ≡ Ok a → (own : OwnCall) × (found ≡ Some own) × (answer_of_call own (find (λ (message : Message). replies_to k message.item) h.work.replies) h ≡ Ok a)
unfolding take_of
taken_of k a (Some own) h e = (own, refl, e)
taken_of k a None h e = absurd (err_ok refusals.NoCall a e)

-- a TakeReply that was answered with a reply: the call is outstanding, and this is the first ready Reply to it
pub take_tells : (k status : ℕ) (value : Value) (h : History) → right_take_reply k h ≡ Ok (answers.Replied status value) → (own : OwnCall) × (message : Message) × (call : ℕ) × (find (is_call k) h.work.calls ≡ Some own) × (find (λ (message : Message). replies_to k message.item) h.work.replies ≡ Some message) × (message.item ≡ items.Reply call status value) × (is_handful value h ≡ false)
unfolding right_take_reply
take_tells k status value h e =
    let taken = taken_of k (answers.Replied status value) (find (is_call k) h.work.calls) h e in
    let replied = call_replied status value taken.0 (find (λ (message : Message). replies_to k message.item) h.work.replies) h taken.2 in
    let told = reply_tells status value replied.0.item h replied.2 in
    (taken.0, replied.0, told.0, taken.1, replied.1, told.1, told.2)

reply_ended : (item : Item) (h : History) → answer_of_reply item h ≡ Ok answers.Ended → ⊥
unfolding answer_of_reply
reply_ended (items.Reply call status value) h e = let clash : answers.Replied status value ≡ answers.Ended = (unless_ok (refuse_if (is_handful value h) refusals.Limit) _ _ e).1 in absurd (cc)
reply_ended (items.Call call target method argument) h e = err_ok refusals.NotReady answers.Ended e
reply_ended (items.Settle item) h e = err_ok refusals.NotReady answers.Ended e
reply_ended (items.Dirty index) h e = err_ok refusals.NotReady answers.Ended e
reply_ended (items.DirtyOk index) h e = err_ok refusals.NotReady answers.Ended e
reply_ended (items.DirtyNo index) h e = err_ok refusals.NotReady answers.Ended e
reply_ended (items.Clean index) h e = err_ok refusals.NotReady answers.Ended e

stage_ended : (stage : Stage) → answer_of_stage stage ≡ Ok answers.Ended → stage ≡ stages.Ended
stage_ended stages.Sent e = absurd (err_ok refusals.NotReady answers.Ended e)
stage_ended stages.Answered e = absurd (err_ok refusals.NotReady answers.Ended e)
stage_ended stages.Ended e = refl

call_ended : (own : OwnCall) (found : Option Message) (h : History) → answer_of_call own found h ≡ Ok answers.Ended → (found ≡ None) × (own.stage ≡ stages.Ended)
unfolding answer_of_call
call_ended own (Some message) h e = absurd (reply_ended message.item h e)
call_ended own None h e = (refl, stage_ended own.stage e)

-- a TakeReply that was answered that there will be none: the call is outstanding and ended, and no Reply to it is ready
pub take_end_tells : (k : ℕ) (h : History) → right_take_reply k h ≡ Ok answers.Ended → (own : OwnCall) × (find (is_call k) h.work.calls ≡ Some own) × (find (λ (message : Message). replies_to k message.item) h.work.replies ≡ None) × (own.stage ≡ stages.Ended)
unfolding right_take_reply
take_end_tells k h e =
    let taken = taken_of k answers.Ended (find (is_call k) h.work.calls) h e in
    let ended = call_ended taken.0 (find (λ (message : Message). replies_to k message.item) h.work.replies) h taken.2 in
    (taken.0, taken.1, ended.0, ended.1)

job_tells : (j p : ℕ) (item : Item) (job : Job) → job_of j p item ≡ Ok (answers.Job job) → (job.job ≡ j) × (job.client ≡ p) × (item ≡ items.Call job.call job.target job.method job.value)
unfolding job_of
job_tells j p (items.Call call target method value) job e =
    let same : record { job = j; call = call; target = target; client = p; method = method; value = value } ≡ job = job_same _ job (ok_same _ _ e) in
    (ap (λ (one : Job). one.job) (sym same), ap (λ (one : Job). one.client) (sym same), ap (λ (one : Job). items.Call one.call one.target one.method one.value) same)
  where
    job_same : (a b : Job) → answers.Job a ≡ answers.Job b → a ≡ b
    job_same a b e = cc
job_tells j p (items.Reply call status value) job e = absurd (err_ok refusals.Nothing (answers.Job job) e)
job_tells j p (items.Settle item) job e = absurd (err_ok refusals.Nothing (answers.Job job) e)
job_tells j p (items.Dirty index) job e = absurd (err_ok refusals.Nothing (answers.Job job) e)
job_tells j p (items.DirtyOk index) job e = absurd (err_ok refusals.Nothing (answers.Job job) e)
job_tells j p (items.DirtyNo index) job e = absurd (err_ok refusals.Nothing (answers.Job job) e)
job_tells j p (items.Clean index) job e = absurd (err_ok refusals.Nothing (answers.Job job) e)

claimed_of : (made : ℕ) (found : Option Message) (job : Job) → claim_of made found ≡ Ok (answers.Job job) → (message : Message) × (found ≡ Some message) × (nat_le last_number made ≡ false) × (job_of (made + 1) message.from message.item ≡ Ok (answers.Job job))
unfolding claim_of
claimed_of made None job e = absurd (err_ok refusals.Nothing (answers.Job job) e)
claimed_of made (Some message) job e = let parts = guard_ok (nat_le last_number made) refusals.Limit _ (answers.Job job) e in (message, refl, parts.0, parts.1)

-- a Claim that was answered with a job: it is the message to claim, which is a Call, with the next number
pub claim_tells : (job : Job) (h : History) → right_claim h ≡ Ok (answers.Job job) → (message : Message) × (to_claim h ≡ Some message) × (job.job ≡ jobs_made h.deeds + 1) × (job.client ≡ message.from) × (message.item ≡ items.Call job.call job.target job.method job.value) × (nat_le last_number (jobs_made h.deeds) ≡ false)
unfolding right_claim
claim_tells job h e =
    let claimed = claimed_of (jobs_made h.deeds) (to_claim h) job e in
    let told = job_tells (jobs_made h.deeds + 1) claimed.0.from claimed.0.item job claimed.3 in
    (claimed.0, claimed.1, told.0, told.1, told.2, claimed.2)

finished_step : (test : Bool) (refusal : Option Refusal) → cond test (Ok answers.Dropped) (unless refusal answers.Finished) ≡ Ok answers.Finished → (test ≡ false) × (refusal ≡ None)
finished_step true refusal e = let clash : answers.Dropped ≡ answers.Finished = ok_same _ _ e in absurd (cc)
finished_step false refusal e = (refl, (unless_ok refusal answers.Finished answers.Finished e).0)

dropped_step : (test : Bool) (refusal : Option Refusal) → cond test (Ok answers.Dropped) (unless refusal answers.Finished) ≡ Ok answers.Dropped → test ≡ true
dropped_step true refusal e = refl
dropped_step false refusal e = let clash : answers.Finished ≡ answers.Dropped = (unless_ok refusal answers.Finished answers.Dropped e).1 in absurd (cc)

finished_of : (s : ℕ) (outcome : Outcome) (found : Option Run) (h : History) → finish_of s outcome found h ≡ Ok answers.Finished → (run : Run) × (found ≡ Some run) × (closed run.message.from h.deeds ≡ false) × (value_refused s h (value_of outcome) ≡ None) × (send_refused run.message.from Limited h ≡ None) × (run.message.session ≡ number run.message.from h.deeds)
unfolding finish_of
finished_of s outcome None h e = absurd (err_ok refusals.NoJob answers.Finished e)
finished_of s outcome (Some run) h e =
    let step = finished_step (has_ended run.message h) (value_refused s h (value_of outcome) or_else send_refused run.message.from Limited h) e in
    let free = both_none (value_refused s h (value_of outcome)) (send_refused run.message.from Limited h) step.1 in
    let open_still = or_parts (closed run.message.from h.deeds) (not (run.message.session == number run.message.from h.deeds)) step.0 in
    (run, refl, open_still.0, free.0, free.1, eqb-true run.message.session (number run.message.from h.deeds) (not-false (run.message.session == number run.message.from h.deeds) open_still.1))

dropped_of : (s : ℕ) (outcome : Outcome) (found : Option Run) (h : History) → finish_of s outcome found h ≡ Ok answers.Dropped → (run : Run) × (found ≡ Some run) × (has_ended run.message h ≡ true)
unfolding finish_of
dropped_of s outcome None h e = absurd (err_ok refusals.NoJob answers.Dropped e)
dropped_of s outcome (Some run) h e = (run, refl, dropped_step (has_ended run.message h) (value_refused s h (value_of outcome) or_else send_refused run.message.from Limited h) e)

-- a Finish whose reply was handed on: the job runs, the session in which its Call came is open and the present one, and the reply may be sent
pub finish_tells : (s job : ℕ) (outcome : Outcome) (h : History) → right_finish s job outcome h ≡ Ok answers.Finished → (run : Run) × (find (is_run job) h.work.running ≡ Some run) × (closed run.message.from h.deeds ≡ false) × (value_refused s h (value_of outcome) ≡ None) × (send_refused run.message.from Limited h ≡ None) × (run.message.session ≡ number run.message.from h.deeds)
unfolding right_finish
finish_tells s job outcome h e = finished_of s outcome (find (is_run job) h.work.running) h e

-- a Finish whose reply goes to nobody: the job runs, and the session in which its Call came has ended
pub drop_tells : (s job : ℕ) (outcome : Outcome) (h : History) → right_finish s job outcome h ≡ Ok answers.Dropped → (run : Run) × (find (is_run job) h.work.running ≡ Some run) × (has_ended run.message h ≡ true)
unfolding right_finish
drop_tells s job outcome h e = dropped_of s outcome (find (is_run job) h.work.running) h e

-- ---- acting on items

acted_answer : (j k : ℕ) (fault : Option Reason) (kept : Option Refusal) → answer_of_act j fault kept ≡ Ok (answers.Acted k) → (j ≡ k) × (fault ≡ None) × (kept ≡ None)
acted_answer j k (Some reason) kept e = let clash : answers.Closed reason ≡ answers.Acted k = ok_same _ _ e in absurd (cc)
acted_answer j k None (Some refusal) e = absurd (err_ok refusal (answers.Acted k) e)
acted_answer j k None None e = (acted_same j k (ok_same _ _ e), refl, refl)
  where
    acted_same : (a b : ℕ) → answers.Acted a ≡ answers.Acted b → a ≡ b
    acted_same a b e = cc

acted_item : (s n p j k : ℕ) (found : Option Item) (h : History) → act_on s n p j found h ≡ Ok (answers.Acted k) → (item : Item) × (found ≡ Some item) × (j ≡ k) × (fault_of s n p item h ≡ None) × (act_refusal s n p item h ≡ None)
unfolding act_on
acted_item s n p j k None h e = let clash : answers.Closed BadItem ≡ answers.Acted k = ok_same _ _ e in absurd (cc)
acted_item s n p j k (Some item) h e = let parts = acted_answer j k (fault_of s n p item h) (act_refusal s n p item h) e in (item, refl, parts.0, parts.1, parts.2)

acted_front : (s n p k : ℕ) (front : Option (ℕ × List ℕ)) (h : History) → act_of s n p front h ≡ Ok (answers.Acted k) → (payload : List ℕ) × (item : Item) × (front ≡ Some (k, payload)) × (item_spelt payload ≡ Some item) × (fault_of s n p item h ≡ None) × (act_refusal s n p item h ≡ None)
unfolding act_of
acted_front s n p k None h e = absurd (err_ok refusals.Nothing (answers.Acted k) e)
acted_front s n p k (Some front) h e =
    let parts = acted_item s n p front.0 k (item_spelt front.1) h e in
    (front.1, parts.0, ap (λ (m : ℕ). Some (m, front.1)) parts.2, parts.1, parts.3, parts.4)

-- an Act on an item: from a peer on an open session, the front of its inbox, which spells an item without a fault that nothing keeps
pub act_tells : (s n p k : ℕ) (h : History) → right_act s n p h ≡ Ok (answers.Acted k) → (is_peer s n p ≡ true) × (closed p h.deeds ≡ false) × ((payload : List ℕ) × (item : Item) × (right_front (calls_at p h) ≡ Some (k, payload)) × (item_spelt payload ≡ Some item) × (fault_of s n p item h ≡ None) × (act_refusal s n p item h ≡ None))
unfolding right_act
act_tells s n p k h e =
    let peer = guard_ok (not (is_peer s n p)) refusals.NoPeer _ (answers.Acted k) e in
    let up = guard_ok (closed p h.deeds) refusals.Closed _ (answers.Acted k) peer.1 in
    (not-false _ peer.0, up.0, acted_front s n p k (right_front (calls_at p h)) h up.1)

-- why acting on what a payload spells closes the session: it spells no item, or this is the item's first fault
abbrev pub ClosesFor : (s n p : ℕ) → Reason → Option Item → History → Type 0
ClosesFor s n p reason None h = reason ≡ BadItem
ClosesFor s n p reason (Some item) h = fault_of s n p item h ≡ Some reason

closed_same : (a b : Reason) → answers.Closed a ≡ answers.Closed b → a ≡ b
closed_same a b e = cc

closing_answer : (j : ℕ) (reason : Reason) (fault : Option Reason) (kept : Option Refusal) → answer_of_act j fault kept ≡ Ok (answers.Closed reason) → fault ≡ Some reason
closing_answer j reason (Some own) kept e = ap Some (closed_same own reason (ok_same _ _ e))
closing_answer j reason None (Some refusal) e = absurd (err_ok refusal (answers.Closed reason) e)
closing_answer j reason None None e = let clash : answers.Acted j ≡ answers.Closed reason = ok_same _ _ e in absurd (cc)

closing_item : (s n p j : ℕ) (reason : Reason) (found : Option Item) (h : History) → act_on s n p j found h ≡ Ok (answers.Closed reason) → ClosesFor s n p reason found h
unfolding act_on
closing_item s n p j reason None h e = sym (closed_same BadItem reason (ok_same _ _ e))
closing_item s n p j reason (Some item) h e = closing_answer j reason (fault_of s n p item h) (act_refusal s n p item h) e

closing_front : (s n p : ℕ) (reason : Reason) (front : Option (ℕ × List ℕ)) (h : History) → act_of s n p front h ≡ Ok (answers.Closed reason) → (k : ℕ) × (payload : List ℕ) × (front ≡ Some (k, payload)) × ClosesFor s n p reason (item_spelt payload) h
unfolding act_of
closing_front s n p reason None h e = absurd (err_ok refusals.Nothing (answers.Closed reason) e)
closing_front s n p reason (Some front) h e = (front.0, front.1, refl, closing_item s n p front.0 reason (item_spelt front.1) h e)

-- an Act that closed the session: with a peer, on an open session, for the front of its inbox
pub fault_tells : (s n p : ℕ) (reason : Reason) (h : History) → right_act s n p h ≡ Ok (answers.Closed reason) → (is_peer s n p ≡ true) × (closed p h.deeds ≡ false) × ((k : ℕ) × (payload : List ℕ) × (right_front (calls_at p h) ≡ Some (k, payload)) × ClosesFor s n p reason (item_spelt payload) h)
unfolding right_act
fault_tells s n p reason h e =
    let peer = guard_ok (not (is_peer s n p)) refusals.NoPeer _ (answers.Closed reason) e in
    let up = guard_ok (closed p h.deeds) refusals.Closed _ (answers.Closed reason) peer.1 in
    (not-false _ peer.0, up.0, closing_front s n p reason (right_front (calls_at p h)) h up.1)

-- ---- settling and giving up

settled_from : (p k q m : ℕ) → answers.Settled p k ≡ answers.Settled q m → p ≡ q
settled_from p k q m e = cc

settled_number : (p k q m : ℕ) → answers.Settled p k ≡ answers.Settled q m → k ≡ m
settled_number p k q m e = cc

settled_of : (s n p k : ℕ) (found : Option Message) (h : History) → settle_of s n found h ≡ Ok (answers.Settled p k) → (message : Message) × (found ≡ Some message) × (message.from ≡ p) × (message.number ≡ k) × (has_numbers message.from (settle_count s n message message.item h) h ≡ true)
unfolding settle_of
settled_of s n p k None h e = absurd (err_ok refusals.Nothing (answers.Settled p k) e)
settled_of s n p k (Some message) h e =
    let parts = where_ok (has_numbers message.from (settle_count s n message message.item h) h) refusals.SeqEnd (answers.Settled message.from message.number) (answers.Settled p k) e in
    (message, refl, settled_from _ _ p k parts.1, settled_number _ _ p k parts.1, parts.0)

-- a Settle that was answered: it is the message to settle, and its peer has free numbers
pub settle_tells : (s n p k : ℕ) (h : History) → right_settle s n h ≡ Ok (answers.Settled p k) → (message : Message) × (to_settle s n h ≡ Some message) × (message.from ≡ p) × (message.number ≡ k) × (has_numbers message.from (settle_count s n message message.item h) h ≡ true)
unfolding right_settle
settle_tells s n p k h e = settled_of s n p k (to_settle s n h) h e

cleaned_same : (a b : WireRep) → answers.Cleaned a ≡ answers.Cleaned b → a ≡ b
cleaned_same a b e = cc

cleaned_of : (rep : WireRep) (found : Option WireRep) (h : History) → clean_of found h ≡ Ok (answers.Cleaned rep) → (found ≡ Some rep) × (has_numbers rep.owner 1 h ≡ true)
unfolding clean_of
cleaned_of rep None h e = absurd (err_ok refusals.Nothing (answers.Cleaned rep) e)
cleaned_of rep (Some own) h e =
    let parts = where_ok (has_numbers own.owner 1 h) refusals.SeqEnd (answers.Cleaned own) (answers.Cleaned rep) e in
    let same = cleaned_same own rep parts.1 in
    (ap Some same, subst (λ (r : WireRep). has_numbers r.owner 1 h ≡ true) same parts.0)

-- a Clean that was answered: it is the reference to give up, and its owner has a free number
pub clean_tells : (s n : ℕ) (rep : WireRep) (h : History) → right_clean s n h ≡ Ok (answers.Cleaned rep) → (to_clean s n h ≡ Some rep) × (has_numbers rep.owner 1 h ≡ true)
unfolding right_clean
clean_tells s n rep h e = cleaned_of rep (to_clean s n h) h e

-- ---- sessions

frames_same : (a b : List Frame) → answers.Frames a ≡ answers.Frames b → a ≡ b
frames_same a b e = cc

-- a Transmit: to a peer, the frames that the end with it gives
pub transmit_tells : (s n p window : ℕ) (frames : List Frame) (h : History) → right_frames s n p window h ≡ Ok (answers.Frames frames) → (is_peer s n p ≡ true) × (frames ≡ right_transmit s p window (calls_at p h))
unfolding right_frames
transmit_tells s n p window frames h e =
    let peer = guard_ok (not (is_peer s n p)) refusals.NoPeer _ (answers.Frames frames) e in
    (not-false _ peer.0, sym (frames_same _ frames (ok_same _ _ peer.1)))

arrival_took : (count : ℕ) (did : Result Arrived EndRefusal) → arrival_of did ≡ Ok (answers.Took count) → did ≡ Ok (arrived.Took count)
arrival_took count (Ok (arrived.Took own)) e = ap (λ (m : ℕ). Ok (arrived.Took m)) (took_same own count (ok_same _ _ e))
  where
    took_same : (a b : ℕ) → answers.Took a ≡ answers.Took b → a ≡ b
    took_same a b e = cc
arrival_took count (Ok (arrived.Closed ending)) e = let clash : answers.Closed ending.reason ≡ answers.Took count = ok_same _ _ e in absurd (cc)
arrival_took count (Err refusal) e = absurd (err_ok refusals.NoPeer (answers.Took count) e)

arrival_closed : (reason : Reason) (did : Result Arrived EndRefusal) → arrival_of did ≡ Ok (answers.Closed reason) → (ending : Ending) × (did ≡ Ok (arrived.Closed ending)) × (ending.reason ≡ reason)
arrival_closed reason (Ok (arrived.Took own)) e = let clash : answers.Took own ≡ answers.Closed reason = ok_same _ _ e in absurd (cc)
arrival_closed reason (Ok (arrived.Closed ending)) e = (ending, refl, closed_same ending.reason reason (ok_same _ _ e))
arrival_closed reason (Err refusal) e = absurd (err_ok refusals.NoPeer (answers.Closed reason) e)

-- a frame that arrived and took so many items: it is for this space and from a peer, and the end with that took so many
pub arrive_tells : (s n count : ℕ) (frame : Frame) (h : History) → right_arrival s n frame h ≡ Ok (answers.Took count) → ((frame.to == s) ≡ true) × (is_peer s n frame.from ≡ true) × (right_arrive s frame.from frame (calls_at frame.from h) ≡ Ok (arrived.Took count))
unfolding right_arrival
arrive_tells s n count frame h e =
    let own = guard_ok (not (frame.to == s) || not (is_peer s n frame.from)) refusals.NoPeer _ (answers.Took count) e in
    let parts = or_parts (not (frame.to == s)) (not (is_peer s n frame.from)) own.0 in
    (not-false _ parts.0, not-false _ parts.1, arrival_took count (right_arrive s frame.from frame (calls_at frame.from h)) own.1)

-- a frame that arrived and closed the session: it is for this space and from a peer, and it closed the end with that
pub arrive_end_tells : (s n : ℕ) (reason : Reason) (frame : Frame) (h : History) → right_arrival s n frame h ≡ Ok (answers.Closed reason) → ((frame.to == s) ≡ true) × (is_peer s n frame.from ≡ true) × ((ending : Ending) × (right_arrive s frame.from frame (calls_at frame.from h) ≡ Ok (arrived.Closed ending)) × (ending.reason ≡ reason))
unfolding right_arrival
arrive_end_tells s n reason frame h e =
    let own = guard_ok (not (frame.to == s) || not (is_peer s n frame.from)) refusals.NoPeer _ (answers.Closed reason) e in
    let parts = or_parts (not (frame.to == s)) (not (is_peer s n frame.from)) own.0 in
    (not-false _ parts.0, not-false _ parts.1, arrival_closed reason (right_arrive s frame.from frame (calls_at frame.from h)) own.1)

tick_done : (did : Result (Option Ending) EndRefusal) → tick_of did ≡ Ok answers.Done → did ≡ Ok None
tick_done (Ok None) e = refl
tick_done (Ok (Some ending)) e = let clash : answers.Closed ending.reason ≡ answers.Done = ok_same _ _ e in absurd (cc)
tick_done (Err refusal) e = absurd (err_ok refusals.Closed answers.Done e)

tick_closed : (reason : Reason) (did : Result (Option Ending) EndRefusal) → tick_of did ≡ Ok (answers.Closed reason) → (ending : Ending) × (did ≡ Ok (Some ending)) × (ending.reason ≡ reason)
tick_closed reason (Ok None) e = let clash : answers.Done ≡ answers.Closed reason = ok_same _ _ e in absurd (cc)
tick_closed reason (Ok (Some ending)) e = (ending, refl, closed_same ending.reason reason (ok_same _ _ e))
tick_closed reason (Err refusal) e = absurd (err_ok refusals.Closed (answers.Closed reason) e)

-- a Tick that was done: of the session with a peer, whose end counted it
pub tick_tells : (s n p retry : ℕ) (h : History) → right_ticks s n p retry h ≡ Ok answers.Done → (is_peer s n p ≡ true) × (right_tick p retry (calls_at p h) ≡ Ok None)
unfolding right_ticks
tick_tells s n p retry h e =
    let peer = guard_ok (not (is_peer s n p)) refusals.NoPeer _ answers.Done e in
    (not-false _ peer.0, tick_done (right_tick p retry (calls_at p h)) peer.1)

-- a Tick that closed the session with a peer
pub tick_end_tells : (s n p retry : ℕ) (reason : Reason) (h : History) → right_ticks s n p retry h ≡ Ok (answers.Closed reason) → (is_peer s n p ≡ true) × ((ending : Ending) × (right_tick p retry (calls_at p h) ≡ Ok (Some ending)) × (ending.reason ≡ reason))
unfolding right_ticks
tick_end_tells s n p retry reason h e =
    let peer = guard_ok (not (is_peer s n p)) refusals.NoPeer _ (answers.Closed reason) e in
    (not-false _ peer.0, tick_closed reason (right_tick p retry (calls_at p h)) peer.1)

close_done : (reason : Reason) (did : Result Ending EndRefusal) → closing_of did ≡ Ok (answers.Closed reason) → (ending : Ending) × (did ≡ Ok ending) × (ending.reason ≡ reason)
close_done reason (Ok ending) e = (ending, refl, closed_same ending.reason reason (ok_same _ _ e))
close_done reason (Err refusal) e = absurd (err_ok refusals.Closed (answers.Closed reason) e)

-- a Close that closed the session with a peer
pub close_tells : (s n p : ℕ) (reason : Reason) (h : History) → right_closing s n p h ≡ Ok (answers.Closed reason) → (is_peer s n p ≡ true) × ((ending : Ending) × (right_close p Asked (calls_at p h) ≡ Ok ending) × (ending.reason ≡ reason))
unfolding right_closing
close_tells s n p reason h e =
    let peer = guard_ok (not (is_peer s n p)) refusals.NoPeer _ (answers.Closed reason) e in
    (not-false _ peer.0, close_done reason (right_close p Asked (calls_at p h)) peer.1)

opened_same : (a b : ℕ) → answers.Opened a ≡ answers.Opened b → a ≡ b
opened_same a b e = cc

-- an Open that was answered: of a session with a peer that closed here, of whose objects nothing is held, and the number is the next one, a session's number
pub open_tells : (s n p k : ℕ) (h : History) → right_open s n p h ≡ Ok (answers.Opened k) → (is_peer s n p ≡ true) × (closed p h.deeds ≡ true) × (still_held s p h ≡ false) × (next_number p h ≡ k) × (k ≤ last_session)
unfolding right_open
open_tells s n p k h e =
    let told = unless_ok (open_refused s n p h) (answers.Opened (next_number p h)) (answers.Opened k) e in
    let peer = next_none (not (is_peer s n p)) refusals.NoPeer _ told.0 in
    let shut = next_none (not (closed p h.deeds)) refusals.StillOpen _ peer.1 in
    let free = next_none (still_held s p h) refusals.StillHeld _ shut.1 in
    let number : next_number p h ≡ k = opened_same (next_number p h) k told.1 in
    let last : next_number p h ≤ last_session = ltb-false last_session (next_number p h) (test_false (nat_lt last_session (next_number p h)) refusals.Limit free.1) in
    (not-false _ peer.0, not-false _ shut.0, free.0, number, subst (λ (m : ℕ). m ≤ last_session) number last)
