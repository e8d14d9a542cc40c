-- By a deed and the raised one lists in step stay so: what each gives, and the outstanding work.
use Rattle.std.proofs.Common.{◌≡◌, ℕ, ◌+◌, ◌&&◌, ◌||◌, not, Bool, true, false, cond, List, [], ◌∷◌, map, filter, find, Option, Some, None, refl, sym, ap, ◌∙◌}
use Rattle.std.specs.Prelude.{◌==◌}
use Rattle.std.specs.List.{list_any}
use Rattle.nob_ids.specs.declared.wire_rep.WireRep.{WireRep}
use Rattle.nob_item.specs.Kinds.{counted_in}
use Rattle.nob_item.specs.declared.item.Item.{Item}
use Rattle.nob_item.specs.declared.item.Item.TheVariants as items
use Rattle.nob_model_types.specs.declared.answer.Job.{Job}
use Rattle.nob_model_types.specs.declared.event.Outcome.{Outcome}
use Rattle.nob_model_types.specs.declared.deed.Deed.{Deed}
use Rattle.nob_model_types.specs.declared.deed.Deed.TheVariants as did
use Rattle.nob_model_types.specs.declared.message.Message.{Message}
use Rattle.nob_model_types.specs.declared.message.RefCopy.{RefCopy}
use Rattle.nob_model_types.specs.declared.message.Loan.TheVariants as loans
use Rattle.nob_model_types.specs.Sessions.{is_peer, closed, number, item_at}
use Rattle.nob_model_types.specs.Turns.{turns, is_own, is_granted, is_refused, is_usable, is_lost}
use Rattle.nob_model_types.specs.Messages.{new_copy, new_message, loan_after, copy_after, message_after, is_of, is_call_of, is_job, is_lost_message}
use Rattle.nob_model_work.specs.declared.work.OwnCall.{OwnCall}
use Rattle.nob_model_work.specs.declared.work.Outstanding.{Outstanding}
use Rattle.nob_model_work.specs.declared.work.Run.{Run}
use Rattle.nob_model_work.specs.declared.gifts.Gift.{Gift}
use Rattle.nob_model_work.specs.Work.{without_first, is_run, is_none_of, call_after_reply, wait, make_ready, make_reply, with_calls, after_message, after_act, after_settlement, without_waiting, after_settle, after_claim, after_finish, after_take, after_end, after_call, after_close, work_after, run_after, with_loans, work}
use Rattle.nob_model_work.specs.Gifts.{once, dirty_for, dirties_for, answer_to, gifts_of_act, lost_call_reply, gifts_of_settle, gifts_of_finish, gifts_of, gifts}
use Rattle.nob_model_jobs.specs.Raised.{raised_job, raised_run, raised_work}
use Rattle.nob_model_jobs.proofs.Answers.{raised_found, same_numbers, found_mapped}
use Rattle.nob_model_jobs.proofs.InStep.{AreInStep, alive_same, exported_same, items_same, waits_same}
use Rattle.nob_model_jobs.proofs.Steps.{raised_deed, wants_same, shut_step, turned_step}

-- ---- where references are as usable

module _ (s n more : ℕ) (C F : List Deed) (turned : (rep : WireRep) → turns s n rep C ≡ turns s n rep F) (shut : (p : ℕ) → closed p C ≡ closed p F) where
  usable_same : (rep : WireRep) → is_usable s n rep C ≡ is_usable s n rep F
  usable_same rep = λ i. is_granted (turned rep i) && not (shut rep.owner i)

  lost_same : (rep : WireRep) → is_lost s n rep C ≡ is_lost s n rep F
  lost_same rep = λ i. not (is_own s rep) && (not (is_peer s n rep.owner) || shut rep.owner i || is_refused (turned rep i))

  lost_message_same : (message : Message) → is_lost_message s n C message ≡ is_lost_message s n F message
  lost_message_same message = λ i. list_any (λ (copy : RefCopy). lost_same copy.rep i) message.copies

  copy_same : (copy : RefCopy) → copy_after s n C copy ≡ copy_after s n F copy
  unfolding copy_after
  copy_same copy = λ i. record { rep = copy.rep; loan = loan_after (is_own s copy.rep || usable_same copy.rep i) copy.loan }

  message_same : (message : Message) → message_after s n C message ≡ message_after s n F message
  unfolding message_after
  message_same message = λ i. record { from = message.from; session = message.session; number = message.number; item = message.item; copies = map (λ (copy : RefCopy). copy_same copy i) message.copies }

  new_copy_same : (rep : WireRep) → new_copy s n C rep ≡ new_copy s n F rep
  unfolding new_copy
  new_copy_same rep = λ i. record { rep = rep; loan = cond (lost_same rep i) loans.Never loans.Due }

  new_message_same : (p k : ℕ) (item : Item) → number p C ≡ number p F → new_message s n p k item C ≡ new_message s n p k item F
  new_message_same p k item numbered = λ i. record { from = p; session = numbered i; number = k; item = item; copies = map (λ (rep : WireRep). new_copy_same rep i) (counted_in item) }

  runs_same : (runs : List Run) → map (λ (run : Run). run_after s n F run) (map (raised_run more) runs) ≡ map (raised_run more) (map (λ (run : Run). run_after s n C run) runs)
  unfolding run_after
  runs_same [] = refl
  runs_same (run ∷ runs) = λ i. record { job = run.job + more; message = sym (message_same run.message) i } ∷ runs_same runs i

  loans_same : (W : Outstanding) → with_loans s n F (raised_work more W) ≡ raised_work more (with_loans s n C W)
  unfolding with_loans
  loans_same W = λ i. record {
    waiting = map (λ (message : Message). sym (message_same message) i) W.waiting;
    ready = map (λ (message : Message). sym (message_same message) i) W.ready;
    running = runs_same W.running i;
    replies = map (λ (message : Message). sym (message_same message) i) W.replies;
    calls = W.calls;
  }

-- ---- what doesn't see the number of a job

same_call : (more : ℕ) (job : Job) (item : Item) → is_call_of (raised_job more job) item ≡ is_call_of job item
same_call more job (items.Call call target method value) = refl
same_call more job (items.Reply call status value) = refl
same_call more job (items.Settle item) = refl
same_call more job (items.Dirty index) = refl
same_call more job (items.DirtyOk index) = refl
same_call more job (items.DirtyNo index) = refl
same_call more job (items.Clean index) = refl

same_job : (more : ℕ) (job : Job) (message : Message) → is_job (raised_job more job) message ≡ is_job job message
same_job more job message = λ i. message.from == job.client && same_call more job message.item i

kept_runs : (more : ℕ) (b : Bool) (run : Run) (rest kept : List Run) → rest ≡ map (raised_run more) kept → cond b (raised_run more run ∷ rest) rest ≡ map (raised_run more) (cond b (run ∷ kept) kept)
kept_runs more true run rest kept same = ap (λ (runs : List Run). raised_run more run ∷ runs) same
kept_runs more false run rest kept same = same

filter_runs : (more job : ℕ) (runs : List Run) → filter (λ (run : Run). not (is_run (job + more) run)) (map (raised_run more) runs) ≡ map (raised_run more) (filter (λ (run : Run). not (is_run job run)) runs)
filter_runs more job [] = refl
filter_runs more job (run ∷ runs) =
    ap (λ (b : Bool). cond (not b) (raised_run more run ∷ filter (λ (one : Run). not (is_run (job + more) one)) (map (raised_run more) runs)) (filter (λ (one : Run). not (is_run (job + more) one)) (map (raised_run more) runs))) (same_numbers run.job job more)
    ∙ kept_runs more (not (run.job == job)) run _ (filter (λ (one : Run). not (is_run job one)) runs) (filter_runs more job runs)

finish_same : (more job : ℕ) (W : Outstanding) → after_finish (job + more) (raised_work more W) ≡ raised_work more (after_finish job W)
unfolding after_finish
finish_same more job W = λ i. record { waiting = W.waiting; ready = W.ready; running = filter_runs more job W.running i; replies = W.replies; calls = W.calls }

claim_same : (more : ℕ) (job : Job) (found : Option Message) (W : Outstanding) → after_claim (raised_job more job) found (raised_work more W) ≡ raised_work more (after_claim job found W)
unfolding after_claim
claim_same more job None W = refl
claim_same more job (Some message) W = λ i. record {
  waiting = W.waiting;
  ready = without_first (λ (one : Message). same_job more job one i) W.ready;
  running = record { job = job.job + more; message = message } ∷ map (raised_run more) W.running;
  replies = W.replies;
  calls = W.calls;
}

ready_or_wait : (more : ℕ) (b : Bool) (message : Message) (W : Outstanding) → cond b (make_ready message (raised_work more W)) (wait message (raised_work more W)) ≡ raised_work more (cond b (make_ready message W) (wait message W))
ready_or_wait more true message W = refl
ready_or_wait more false message W = refl

reply_or_wait : (more : ℕ) (b : Bool) (change : OwnCall → OwnCall) (message : Message) (W : Outstanding) → with_calls change (cond b (make_reply message (raised_work more W)) (wait message (raised_work more W))) ≡ raised_work more (with_calls change (cond b (make_reply message W) (wait message W)))
reply_or_wait more true change message W = refl
reply_or_wait more false change message W = refl

message_after_same : (more : ℕ) (message : Message) (item : Item) (W : Outstanding) → after_message message item (raised_work more W) ≡ raised_work more (after_message message item W)
unfolding after_message
message_after_same more message (items.Call call target method value) W = ready_or_wait more (is_none_of message.copies) message W
message_after_same more message (items.Reply call status value) W = reply_or_wait more (is_none_of message.copies) (call_after_reply message.from call) message W
message_after_same more message (items.Settle item) W = refl
message_after_same more message (items.Dirty index) W = refl
message_after_same more message (items.DirtyOk index) W = refl
message_after_same more message (items.DirtyNo index) W = refl
message_after_same more message (items.Clean index) W = refl

settlement_same : (more : ℕ) (message : Message) (item : Item) (lost : Bool) (W : Outstanding) → after_settlement message item lost (raised_work more W) ≡ raised_work more (after_settlement message item lost W)
unfolding after_settlement
settlement_same more message (items.Call call target method value) true W = refl
settlement_same more message (items.Call call target method value) false W = refl
settlement_same more message (items.Reply call status value) true W = refl
settlement_same more message (items.Reply call status value) false W = refl
settlement_same more message (items.Settle item) lost W = refl
settlement_same more message (items.Dirty index) lost W = refl
settlement_same more message (items.DirtyOk index) lost W = refl
settlement_same more message (items.DirtyNo index) lost W = refl
settlement_same more message (items.Clean index) lost W = refl

finish_gifts : (more : ℕ) (outcome : Outcome) (found : Option Run) → gifts_of_finish outcome (raised_found more found) ≡ gifts_of_finish outcome found
unfolding gifts_of_finish
finish_gifts more outcome None = refl
finish_gifts more outcome (Some run) = refl

module _ (s n more : ℕ) (D E : List Deed) (its : AreInStep s n more D E) where
  -- ---- what a deed gives

  answers_same : (p index : ℕ) → answer_to s p index D ≡ answer_to s p index E
  unfolding answer_to
  answers_same p index = λ i. cond (alive_same s n more D E its index i) (record { to = p; item = items.DirtyOk index } ∷ []) (cond (exported_same s n more D E its index i) (record { to = p; item = items.DirtyNo index } ∷ []) [])

  dirties_same : (reps : List WireRep) → dirties_for s n D reps ≡ dirties_for s n E reps
  unfolding dirties_for
  dirties_same reps = λ i. map dirty_for (filter (λ (rep : WireRep). wants_same s n more D E its rep i) (once reps))

  act_gifts : (p : ℕ) (found : Option Item) → gifts_of_act s n p D found ≡ gifts_of_act s n p E found
  unfolding gifts_of_act
  act_gifts p None = refl
  act_gifts p (Some (items.Call call target method value)) = dirties_same (counted_in (items.Call call target method value))
  act_gifts p (Some (items.Reply call status value)) = dirties_same (counted_in (items.Reply call status value))
  act_gifts p (Some (items.Settle item)) = refl
  act_gifts p (Some (items.Dirty index)) = answers_same p index
  act_gifts p (Some (items.DirtyOk index)) = refl
  act_gifts p (Some (items.DirtyNo index)) = refl
  act_gifts p (Some (items.Clean index)) = refl

  settle_gifts : (p k : ℕ) (found : Option Message) → gifts_of_settle s n p k D found ≡ gifts_of_settle s n p k E found
  unfolding gifts_of_settle
  settle_gifts p k None = refl
  settle_gifts p k (Some message) = λ i. record { to = p; item = items.Settle k } ∷ lost_call_reply p message.item (lost_message_same s n more D E its.turned its.shut message i)

  gives_same : (deed : Deed) → gifts_of s n deed D (work s n D) ≡ gifts_of s n (raised_deed more deed) E (work s n E)
  unfolding gifts_of
  gives_same (did.Finish job outcome) = sym (
      ap (λ (W : Outstanding). gifts_of_finish outcome (find (is_run (job + more)) W.running)) its.outstanding
      ∙ ap (gifts_of_finish outcome) (found_mapped more job (work s n D).running)
      ∙ finish_gifts more outcome (find (is_run job) (work s n D).running))
  gives_same (did.Act p k) = act_gifts p (item_at p k D) ∙ ap (gifts_of_act s n p E) (items_same s n more D E its p k)
  gives_same (did.Settle p k) = settle_gifts p k (find (is_of p k) (work s n D).waiting) ∙ ap (λ (messages : List Message). gifts_of_settle s n p k E (find (is_of p k) messages)) (sym (waits_same s n more D E its))
  gives_same (did.Clean rep) = λ i. cond (its.turned rep i).asks (record { to = rep.owner; item = items.Clean rep.index } ∷ []) []
  gives_same deed = refl

  -- a deed and the raised one give the same
  pub gifts_same : (deed : Deed) → gifts s n deed D (work s n D) ≡ gifts s n (raised_deed more deed) E (work s n E)
  unfolding gifts
  gifts_same deed = ap (filter (λ (gift : Gift). is_peer s n gift.to)) (gives_same deed)

  -- ---- what is outstanding

  act_same : (p k : ℕ) (found : Option Item) (W : Outstanding) → after_act s n p k E found (raised_work more W) ≡ raised_work more (after_act s n p k D found W)
  unfolding after_act
  act_same p k None W = refl
  act_same p k (Some item) W =
      ap (λ (message : Message). after_message message item (raised_work more W)) (sym (new_message_same s n more (did.Act p k ∷ D) (did.Act p k ∷ E) (turned_step s n more D E its (did.Act p k)) its.shut p k item (its.numbered p)))
      ∙ message_after_same more (new_message s n p k item (did.Act p k ∷ D)) item W

  settle_same : (p k : ℕ) (found : Option Message) (W : Outstanding) → after_settle s n p k E found (raised_work more W) ≡ raised_work more (after_settle s n p k D found W)
  unfolding after_settle
  settle_same p k None W = refl
  settle_same p k (Some message) W =
      ap (λ (lost : Bool). after_settlement message message.item lost (without_waiting p k (raised_work more W))) (sym (lost_message_same s n more D E its.turned its.shut message))
      ∙ settlement_same more message message.item (is_lost_message s n D message) (without_waiting p k W)

  after_same : (deed : Deed) (W : Outstanding) → work_after s n (raised_deed more deed) E (raised_work more W) ≡ raised_work more (work_after s n deed D W)
  unfolding work_after after_call after_take after_end after_close
  after_same (did.Claim job) W =
      ap (λ (found : Option Message). after_claim (raised_job more job) found (raised_work more W)) (λ i. find (λ (one : Message). same_job more job one i) W.ready)
      ∙ claim_same more job (find (is_job job) W.ready) W
  after_same (did.Finish job outcome) W = finish_same more job W
  after_same (did.DropReply job) W = finish_same more job W
  after_same (did.Act p k) W =
      ap (λ (found : Option Item). after_act s n p k E found (raised_work more W)) (sym (items_same s n more D E its p k))
      ∙ act_same p k (item_at p k D) W
  after_same (did.Settle p k) W = settle_same p k (find (is_of p k) W.waiting) W
  after_same deed W = refl

  pub outstanding_step : (deed : Deed) → work s n (raised_deed more deed ∷ E) ≡ raised_work more (work s n (deed ∷ D))
  outstanding_step deed =
      ap (λ (W : Outstanding). with_loans s n (raised_deed more deed ∷ E) (work_after s n (raised_deed more deed) E W)) its.outstanding
      ∙ ap (with_loans s n (raised_deed more deed ∷ E)) (after_same deed (work s n D))
      ∙ loans_same s n more (deed ∷ D) (raised_deed more deed ∷ E) (turned_step s n more D E its deed) (shut_step s n more D E its deed) (work_after s n deed D (work s n D))
