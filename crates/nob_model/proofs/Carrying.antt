-- What holds of every message outstanding, on every list: it carries the counted references of its item, in order.
use Rattle.std.proofs.Common.{◌≡◌, ℕ, Bool, true, false, not, cond, List, [], ◌∷◌, ◌++◌, map, filter, find, Option, Some, None, if◌then◌else◌, refl, ap, subst, ◌∙◌}
use Rattle.std.specs.List.{AllByRecursion}
use Rattle.nob_ids.specs.declared.wire_rep.WireRep.{WireRep}
use Rattle.nob_item.specs.Kinds.{counted_in}
use Rattle.nob_item.specs.declared.item.Item.{Item}
use Rattle.nob_item.specs.declared.item.Item.TheVariants as items
use Rattle.nob_model_types.specs.declared.answer.Job.{Job}
use Rattle.nob_model_types.specs.declared.deed.Deed.{Deed}
use Rattle.nob_model_types.specs.declared.deed.Deed.TheVariants.{Call, TakeReply, TakeEnd, Claim, Finish, DropReply, Act, Settle, Closing}
use Rattle.nob_model_types.specs.declared.message.Message.{Message}
use Rattle.nob_model_types.specs.declared.message.RefCopy.{RefCopy}
use Rattle.nob_model_types.specs.Sessions.{item_at}
use Rattle.nob_model_types.specs.Messages.{new_message, new_copy, message_after, copy_after, is_of, is_not_from, is_job, is_lost_message}
use Rattle.nob_model_work.specs.declared.work.Outstanding.{Outstanding}
use Rattle.nob_model_work.specs.declared.work.OwnCall.{OwnCall}
use Rattle.nob_model_work.specs.declared.work.Run.{Run}
use Rattle.nob_model_work.specs.Work.{wait, make_ready, make_reply, with_calls, call_after_reply, work, work_after, with_loans, run_after, without_first, is_none_of, lost_reply, is_run, is_not_reply, after_message, after_act, after_settlement, after_settle, after_claim, after_finish, after_take, after_end, after_call, after_close, without_waiting}

-- ---- lists of which all elements hold something

module _ {A : Type 0} (P : A → Type 0) where
  pub all_push : (xs : List A) (x : A) → AllByRecursion P xs → P x → AllByRecursion P (xs ++ x ∷ [])
  all_push [] x all its = (its, tt)
  all_push (y ∷ xs) x all its = (all.0, all_push xs x all.1 its)

  pub all_filter : (test : A → Bool) (xs : List A) → AllByRecursion P xs → AllByRecursion P (filter test xs)
  all_filter test [] all = tt
  all_filter test (x ∷ xs) all = elim (test x) as (λ b. AllByRecursion P (cond b (x ∷ filter test xs) (filter test xs))) [ true ↦ (all.0, all_filter test xs all.1) | false ↦ all_filter test xs all.1 ]

  pub all_without : (test : A → Bool) (xs : List A) → AllByRecursion P xs → AllByRecursion P (without_first test xs)
  all_without test [] all = tt
  all_without test (x ∷ xs) all = elim (test x) as (λ b. AllByRecursion P (if b then xs else x ∷ without_first test xs)) [ true ↦ all.1 | false ↦ (all.0, all_without test xs all.1) ]

  pub all_found : (test : A → Bool) (xs : List A) (m : A) → find test xs ≡ Some m → AllByRecursion P xs → P m
  all_found test [] m found all = absurd (nothing m found)
    where
      nothing : (m : A) → None ≡ Some m → ⊥
      nothing m e = cc
  all_found test (x ∷ xs) m found all = elim (test x) as (λ b. cond b (Some x) (find test xs) ≡ Some m → P m) [
    | true ↦ λ here. (let is : x ≡ m = cc in subst P is all.0)
    | false ↦ λ there. all_found test xs m there all.1
  ] found

  pub all_mapped : (f : A → A) → ((x : A) → P x → P (f x)) → (xs : List A) → AllByRecursion P xs → AllByRecursion P (map f xs)
  all_mapped f step [] all = tt
  all_mapped f step (x ∷ xs) all = (step x all.0, all_mapped f step xs all.1)

-- ---- outstanding messages

-- something holds of all outstanding messages
pub record AllOutstanding (P : Message → Type 0) (W : Outstanding) : Type 0 where
  pub waiting : AllByRecursion P W.waiting
  pub ready : AllByRecursion P W.ready
  pub running : AllByRecursion (λ run. P run.message) W.running
  pub replies : AllByRecursion P W.replies

module _ (s n : ℕ) (P : Message → Type 0)
    (kept : (D : List Deed) (m : Message) → P m → P (message_after s n D m))
    (new : (p k : ℕ) (item : Item) (D : List Deed) → item_at p k D ≡ Some item → P (new_message s n p k item (Act p k ∷ D)))
    (lost : (m : Message) (call : ℕ) → P (lost_reply m call)) where
  -- one ready job more, one message more that waits, one ready reply more
  hold_ready : (m : Message) (W : Outstanding) → P m → AllOutstanding P W → AllOutstanding P (make_ready m W)
  hold_ready m W its all = record { waiting = all.waiting; ready = all_push P W.ready m all.ready its; running = all.running; replies = all.replies }

  hold_wait : (m : Message) (W : Outstanding) → P m → AllOutstanding P W → AllOutstanding P (wait m W)
  hold_wait m W its all = record { waiting = all_push P W.waiting m all.waiting its; ready = all.ready; running = all.running; replies = all.replies }

  hold_reply : (m : Message) (W : Outstanding) → P m → AllOutstanding P W → AllOutstanding P (make_reply m W)
  hold_reply m W its all = record { waiting = all.waiting; ready = all.ready; running = all.running; replies = all_push P W.replies m all.replies its }

  -- calls change no message
  hold_calls : (change : OwnCall → OwnCall) (W : Outstanding) → AllOutstanding P W → AllOutstanding P (with_calls change W)
  hold_calls change W all = record { waiting = all.waiting; ready = all.ready; running = all.running; replies = all.replies }

  -- a message that was acted on
  hold_message : (m : Message) (item : Item) (W : Outstanding) → P m → AllOutstanding P W → AllOutstanding P (after_message m item W)
  unfolding after_message
  hold_message m (items.Call call target method value) W its all = elim (is_none_of m.copies) as (λ b. AllOutstanding P (if b then make_ready m W else wait m W)) [ true ↦ hold_ready m W its all | false ↦ hold_wait m W its all ]
  hold_message m (items.Reply call status value) W its all = hold_calls (call_after_reply m.from call) (if is_none_of m.copies then make_reply m W else wait m W) (elim (is_none_of m.copies) as (λ b. AllOutstanding P (if b then make_reply m W else wait m W)) [ true ↦ hold_reply m W its all | false ↦ hold_wait m W its all ])
  hold_message m (_) W its all = all

  hold_act : (p k : ℕ) (D : List Deed) (found : Option Item) (W : Outstanding) → item_at p k D ≡ found → AllOutstanding P W → AllOutstanding P (after_act s n p k D found W)
  unfolding after_act
  hold_act p k D None W is all = all
  hold_act p k D (Some item) W is all = hold_message (new_message s n p k item (Act p k ∷ D)) item W (new p k item D is) all

  -- a message that was settled
  hold_settled : (m : Message) (item : Item) (is_lost : Bool) (W : Outstanding) → P m → AllOutstanding P W → AllOutstanding P (after_settlement m item is_lost W)
  unfolding after_settlement
  hold_settled m (items.Call call target method value) true W its all = all
  hold_settled m (items.Call call target method value) false W its all = hold_ready m W its all
  hold_settled m (items.Reply call status value) true W its all = hold_reply (lost_reply m call) W (lost m call) all
  hold_settled m (items.Reply call status value) false W its all = hold_reply m W its all
  hold_settled m (_) is_lost W its all = all

  hold_settle : (p k : ℕ) (D : List Deed) (found : Option Message) (W : Outstanding) → find (is_of p k) W.waiting ≡ found → AllOutstanding P W → AllOutstanding P (after_settle s n p k D found W)
  unfolding after_settle
  hold_settle p k D None W is all = all
  hold_settle p k D (Some m) W is all = hold_settled m m.item (is_lost_message s n D m) (without_waiting p k W) (all_found P (is_of p k) W.waiting m is all.waiting)
      record { waiting = all_without P (is_of p k) W.waiting all.waiting; ready = all.ready; running = all.running; replies = all.replies }

  -- a job that was claimed
  hold_claim : (job : Job) (found : Option Message) (W : Outstanding) → find (is_job job) W.ready ≡ found → AllOutstanding P W → AllOutstanding P (after_claim job found W)
  unfolding after_claim
  hold_claim job None W is all = all
  hold_claim job (Some m) W is all = record { waiting = all.waiting; ready = all_without P (is_job job) W.ready all.ready; running = (all_found P (is_job job) W.ready m is all.ready, all.running); replies = all.replies }

  -- a deed, the loans aside
  hold_deed : (deed : Deed) (D : List Deed) (W : Outstanding) → AllOutstanding P W → AllOutstanding P (work_after s n deed D W)
  unfolding work_after after_call after_take after_end after_finish after_close
  hold_deed (Call target method value call) D W all = record { waiting = all.waiting; ready = all.ready; running = all.running; replies = all.replies }
  hold_deed (TakeReply call status value) D W all = record { waiting = all_filter P (is_not_reply call) W.waiting all.waiting; ready = all.ready; running = all.running; replies = all_filter P (is_not_reply call) W.replies all.replies }
  hold_deed (TakeEnd call) D W all = record { waiting = all.waiting; ready = all.ready; running = all.running; replies = all.replies }
  hold_deed (Claim job) D W all = hold_claim job (find (is_job job) W.ready) W refl all
  hold_deed (Finish job outcome) D W all = record { waiting = all.waiting; ready = all.ready; running = all_filter (λ (run : Run). P run.message) (λ run. not (is_run job run)) W.running all.running; replies = all.replies }
  hold_deed (DropReply job) D W all = record { waiting = all.waiting; ready = all.ready; running = all_filter (λ (run : Run). P run.message) (λ run. not (is_run job run)) W.running all.running; replies = all.replies }
  hold_deed (Act p k) D W all = hold_act p k D (item_at p k D) W refl all
  hold_deed (Settle p k) D W all = hold_settle p k D (find (is_of p k) W.waiting) W refl all
  hold_deed (Closing p reason cause) D W all = record { waiting = all_filter P (is_not_from p) W.waiting all.waiting; ready = all_filter P (is_not_from p) W.ready all.ready; running = all.running; replies = all.replies }
  hold_deed (_) D W all = all

  -- what all that arrives holds, and no loan changes, holds of all outstanding messages
  pub all_outstanding : (D : List Deed) → AllOutstanding P (work s n D)
  unfolding with_loans run_after
  all_outstanding [] = record { waiting = tt; ready = tt; running = tt; replies = tt }
  all_outstanding (deed ∷ D) =
      let W : Outstanding = work_after s n deed D (work s n D) in
      let before : AllOutstanding P W = hold_deed deed D (work s n D) (all_outstanding D) in
      record {
        waiting = all_mapped P (λ m. message_after s n (deed ∷ D) m) (kept (deed ∷ D)) W.waiting before.waiting;
        ready = all_mapped P (λ m. message_after s n (deed ∷ D) m) (kept (deed ∷ D)) W.ready before.ready;
        running = all_mapped (λ (run : Run). P run.message) (λ run. run_after s n (deed ∷ D) run) (λ run its. kept (deed ∷ D) run.message its) W.running before.running;
        replies = all_mapped P (λ m. message_after s n (deed ∷ D) m) (kept (deed ∷ D)) W.replies before.replies;
      }

-- ---- the references that a message carries

-- a message carries the counted references of its item, in order
abbrev pub Carries : Message → Type 0
Carries m = map (λ copy. copy.rep) m.copies ≡ counted_in m.item

reps_kept : (s n : ℕ) (D : List Deed) (copies : List RefCopy) → map (λ copy. copy.rep) (map (λ copy. copy_after s n D copy) copies) ≡ map (λ copy. copy.rep) copies
unfolding copy_after
reps_kept s n D [] = refl
reps_kept s n D (copy ∷ copies) = ap (λ reps. copy.rep ∷ reps) (reps_kept s n D copies)

reps_new : (s n : ℕ) (D : List Deed) (reps : List WireRep) → map (λ copy. copy.rep) (map (λ rep. new_copy s n D rep) reps) ≡ reps
unfolding new_copy
reps_new s n D [] = refl
reps_new s n D (rep ∷ reps) = ap (λ others. rep ∷ others) (reps_new s n D reps)

-- all outstanding messages do
pub all_carry : (s n : ℕ) (D : List Deed) → AllOutstanding Carries (work s n D)
unfolding message_after
all_carry s n D = all_outstanding s n Carries (λ D m its. reps_kept s n D m.copies ∙ its) (λ p k item D is. reps_new s n (Act p k ∷ D) (counted_in item)) (λ m call. refl) D
