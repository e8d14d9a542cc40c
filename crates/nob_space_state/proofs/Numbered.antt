-- The numbers of the jobs that run: no greater than how many jobs were claimed.
use Rattle.std.proofs.Common.{◌≡◌, ℕ, ◌+◌, ◌<◌, ◌≤◌, Bool, true, false, not, List, [], ◌∷◌, find, Option, Some, None, if◌then◌else◌, refl, sym, subst, arith}
use Rattle.std.specs.List.{AllByRecursion}
use Rattle.nob_ids.specs.declared.limits.Limits.{Limits}
use Rattle.nob_item.specs.declared.item.Item.{Item}
use Rattle.nob_item.specs.declared.item.Item.TheVariants as items
use Rattle.nob_model_types.specs.declared.answer.Job.{Job}
use Rattle.nob_model_types.specs.declared.deed.Deed.{Deed}
use Rattle.nob_model_types.specs.declared.deed.Deed.TheVariants.{Call, TakeReply, TakeEnd, Claim, Finish, DropReply, Act, Settle, Closing}
use Rattle.nob_model_types.specs.Sessions.{item_at}
use Rattle.nob_model_types.specs.declared.message.Message.{Message}
use Rattle.nob_model_types.specs.Messages.{is_job, is_of}
use Rattle.nob_model_work.specs.declared.work.Outstanding.{Outstanding}
use Rattle.nob_model_work.specs.declared.work.Run.{Run}
use Rattle.nob_model_work.specs.Work.{work, work_after, with_loans, run_after, is_none_of, make_ready, make_reply, wait, after_message, after_act, after_settlement, after_settle, after_claim, after_finish, after_take, after_end, after_call, after_close, is_run}
use Rattle.nob_model_history.specs.Histories.{history_of}
use Rattle.nob_model.specs.Lists.{AreRightDeeds, IsRightDeed}
use Rattle.nob_model.specs.Right.{jobs_made, right_after}
use Rattle.nob_model.proofs.Accepted.{claim_tells}
use Rattle.nob_model.proofs.Doing.{was_answered}
use Rattle.nob_space_messages.specs.Jobs.{IsAbove}
use Rattle.nob_space_state.specs.Parts.{State}
use Rattle.nob_space_state.specs.Stands.{Stands}
use Rattle.nob_space_state.proofs.Running.{all_filter, all_map}

-- whichever it is, the same jobs run
kept : (b : Bool) (one other W : Outstanding) → one.running ≡ W.running → other.running ≡ W.running → Outstanding.running (if b then one else other) ≡ W.running
kept true one other W same again = same
kept false one other W same again = again

-- a message acted on runs no job
message_runs : (message : Message) (item : Item) (W : Outstanding) → (after_message message item W).running ≡ W.running
unfolding after_message
message_runs message (items.Call call target method value) W = kept (is_none_of message.copies) (make_ready message W) (wait message W) W refl refl
message_runs message (items.Reply call status value) W = kept (is_none_of message.copies) (make_reply message W) (wait message W) W refl refl
message_runs message (items.Settle item) W = refl
message_runs message (items.Dirty index) W = refl
message_runs message (items.DirtyOk index) W = refl
message_runs message (items.DirtyNo index) W = refl
message_runs message (items.Clean index) W = refl

-- nor does one that was settled
settled_runs : (message : Message) (item : Item) (lost : Bool) (W : Outstanding) → (after_settlement message item lost W).running ≡ W.running
unfolding after_settlement
settled_runs message (items.Call call target method value) true W = refl
settled_runs message (items.Call call target method value) false W = refl
settled_runs message (items.Reply call status value) true W = refl
settled_runs message (items.Reply call status value) false W = refl
settled_runs message (items.Settle item) lost W = refl
settled_runs message (items.Dirty index) lost W = refl
settled_runs message (items.DirtyOk index) lost W = refl
settled_runs message (items.DirtyNo index) lost W = refl
settled_runs message (items.Clean index) lost W = refl

act_runs : (s n p k : ℕ) (D : List Deed) (found : Option Item) (W : Outstanding) → (after_act s n p k D found W).running ≡ W.running
unfolding after_act
act_runs s n p k D None W = refl
act_runs s n p k D (Some item) W = message_runs _ item W

settle_runs : (s n p k : ℕ) (D : List Deed) (found : Option Message) (W : Outstanding) → (after_settle s n p k D found W).running ≡ W.running
unfolding after_settle
settle_runs s n p k D None W = refl
settle_runs s n p k D (Some message) W = settled_runs message message.item _ _

-- jobs whose numbers are no greater than a count
abbrev pub AreCounted : ℕ → List Run → Type 0
AreCounted made runs = AllByRecursion (λ run. run.job ≤ made) runs

weaker : (made more : ℕ) (runs : List Run) → made ≤ more → AreCounted made runs → AreCounted more runs
weaker made more [] le all = tt
weaker made more (run ∷ runs) le all = (omega (arith, le, all.0), weaker made more runs le all.1)

claim_counted : (made : ℕ) (job : Job) (found : Option Message) (W : Outstanding) → job.job ≡ made + 1 → AreCounted made W.running → AreCounted (made + 1) (after_claim job found W).running
unfolding after_claim
claim_counted made job None W next all = weaker made (made + 1) W.running (omega arith) all
claim_counted made job (Some message) W next all = (omega (arith, next), weaker made (made + 1) W.running (omega arith) all)

module _ (s n : ℕ) (limits : Limits) where
  -- a job that was claimed has the next number
  claim_next : (job : Job) (D : List Deed) → IsRightDeed s n limits (Claim job) D → job.job ≡ jobs_made D + 1
  unfolding right_after
  claim_next job D right = let told = claim_tells job (history_of s n D) (was_answered s n limits (Claim job) D right) in told.2

  deed_counted : (deed : Deed) (D : List Deed) → IsRightDeed s n limits deed D → AreCounted (jobs_made D) (work s n D).running → AreCounted (jobs_made (deed ∷ D)) (work_after s n deed D (work s n D)).running
  unfolding work_after after_finish after_take after_end after_call after_close
  deed_counted (Call target method value call) D right all = all
  deed_counted (TakeReply call status value) D right all = all
  deed_counted (TakeEnd call) D right all = all
  deed_counted (Claim job) D right all = claim_counted (jobs_made D) job (find (is_job job) (work s n D).ready) (work s n D) (claim_next job D right) all
  deed_counted (Finish job outcome) D right all = all_filter (λ run. run.job ≤ jobs_made D) (λ run. not (is_run job run)) (work s n D).running all
  deed_counted (DropReply job) D right all = all_filter (λ run. run.job ≤ jobs_made D) (λ run. not (is_run job run)) (work s n D).running all
  deed_counted (Act p k) D right all = subst (AreCounted (jobs_made D)) (sym (act_runs s n p k D (item_at p k D) (work s n D))) all
  deed_counted (Settle p k) D right all = subst (AreCounted (jobs_made D)) (sym (settle_runs s n p k D (find (is_of p k) (work s n D).waiting) (work s n D))) all
  deed_counted (Closing p reason cause) D right all = all
  deed_counted (deed) D right all = all

  -- no job that runs has a greater number than jobs were claimed
  pub runs_counted : (D : List Deed) → AreRightDeeds s n limits D → AreCounted (jobs_made D) (work s n D).running
  unfolding with_loans run_after
  runs_counted [] right = tt
  runs_counted (deed ∷ D) right =
      all_map (λ run. run.job ≤ jobs_made (deed ∷ D)) (λ run. run.job ≤ jobs_made (deed ∷ D)) (λ run. run_after s n (deed ∷ D) run) (λ run low. low) (work_after s n deed D (work s n D)).running (deed_counted deed D right.0 (runs_counted D right.1))

-- the number of the next job is above those of all that run
pub jobs_below : {s n : ℕ} {limits : Limits} {st : State} {D : List Deed} → Stands s n limits st D → (number : ℕ) → number ≡ st.jobs + 1 → IsAbove st.work.running number
jobs_below {s} {n} {limits} {st} {D} stands number next =
    let all : AreCounted (jobs_made D) st.work.running = subst (λ (W : Outstanding). AreCounted (jobs_made D) W.running) (sym stands.work) (runs_counted s n limits D stands.right) in
    let made = stands.jobs in
    below st.work.running all (omega (arith, next, made))
  where
    below : (runs : List Run) → AreCounted (jobs_made D) runs → jobs_made D < number → IsAbove runs number
    below [] all less = tt
    below (run ∷ runs) all less = (omega (arith, all.0, less), below runs all.1 less)
