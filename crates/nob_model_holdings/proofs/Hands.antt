-- What holds of every message outstanding is kept by a deed, where it holds of the message that comes.
use Rattle.std.proofs.Common.{◌≡◌, ℕ, Bool, true, false, not, List, ◌∷◌, find, Option, Some, None, if◌then◌else◌, refl}
use Rattle.std.specs.Prelude.{⊤}
use Rattle.nob_item.specs.declared.item.Item.{Item}
use Rattle.nob_item.specs.declared.item.Item.TheVariants as items
use Rattle.nob_pickle.specs.declared.value.Value.{Value}
use Rattle.nob_model_types.specs.declared.answer.Job.{Job}
use Rattle.nob_model_types.specs.declared.deed.Deed.{Deed}
use Rattle.nob_model_types.specs.declared.deed.Deed.TheVariants.{Call, TakeReply, TakeEnd, Claim, Finish, DropReply, Act, Settle, Closing}
use Rattle.nob_model_types.specs.declared.message.Message.{Message}
use Rattle.nob_model_types.specs.Sessions.{item_at}
use Rattle.nob_model_types.specs.Messages.{new_message, message_after, is_of, is_not_from, is_job, is_lost_message}
use Rattle.nob_model_work.specs.declared.work.Outstanding.{Outstanding}
use Rattle.nob_model_work.specs.declared.work.OwnCall.{OwnCall}
use Rattle.nob_model_work.specs.declared.work.Run.{Run}
use Rattle.nob_model_work.specs.Work.{wait, make_ready, make_reply, with_calls, call_after_reply, work, work_after, with_loans, run_after, is_none_of, lost_reply, is_run, is_not_reply, after_message, after_act, after_settlement, after_settle, after_claim, after_finish, after_take, after_end, after_call, after_close, without_waiting}
use Rattle.nob_model.proofs.Waiting.{all_weaker}
use Rattle.nob_model_holdings.proofs.Lists.{all_both}
use Rattle.nob_model.proofs.Carrying.{AllOutstanding, all_push, all_filter, all_without, all_found, all_mapped}

-- what follows from what holds of all that is outstanding holds of all that is outstanding
pub hand_weaker : (P Q : Message → Type 0) → ((m : Message) → P m → Q m) → (W : Outstanding) → AllOutstanding P W → AllOutstanding Q W
hand_weaker P Q step W all = record {
  waiting = all_weaker P Q step W.waiting all.waiting;
  ready = all_weaker P Q step W.ready all.ready;
  running = all_weaker (λ (run : Run). P run.message) (λ (run : Run). Q run.message) (λ run its. step run.message its) W.running all.running;
  replies = all_weaker P Q step W.replies all.replies;
}

-- two things hold of all that is outstanding
pub hand_both : (P Q R : Message → Type 0) → ((m : Message) → P m → Q m → R m) → (W : Outstanding) → AllOutstanding P W → AllOutstanding Q W → AllOutstanding R W
hand_both P Q R both W ps qs = record {
  waiting = all_both P Q R both W.waiting ps.waiting qs.waiting;
  ready = all_both P Q R both W.ready ps.ready qs.ready;
  running = all_both (λ (run : Run). P run.message) (λ (run : Run). Q run.message) (λ (run : Run). R run.message) (λ run. both run.message) W.running ps.running qs.running;
  replies = all_both P Q R both W.replies ps.replies qs.replies;
}

module _ (s n : ℕ) (P : Message → Type 0)
    (lost : (m : Message) (call status : ℕ) (value : Value) → m.item ≡ items.Reply call status value → P m → P (lost_reply m call)) where
  -- one ready job more, one message more that waits, one ready reply more
  hold_ready : (m : Message) (W : Outstanding) → P m → AllOutstanding P W → AllOutstanding P (make_ready m W)
  hold_ready m W its all = record { waiting = all.waiting; ready = all_push P W.ready m all.ready its; running = all.running; replies = all.replies }

  hold_wait : (m : Message) (W : Outstanding) → P m → AllOutstanding P W → AllOutstanding P (wait m W)
  hold_wait m W its all = record { waiting = all_push P W.waiting m all.waiting its; ready = all.ready; running = all.running; replies = all.replies }

  hold_reply : (m : Message) (W : Outstanding) → P m → AllOutstanding P W → AllOutstanding P (make_reply m W)
  hold_reply m W its all = record { waiting = all.waiting; ready = all.ready; running = all.running; replies = all_push P W.replies m all.replies its }

  -- calls change no message
  hold_calls : (change : OwnCall → OwnCall) (W : Outstanding) → AllOutstanding P W → AllOutstanding P (with_calls change W)
  hold_calls change W all = record { waiting = all.waiting; ready = all.ready; running = all.running; replies = all.replies }

  -- a message that was acted on
  hold_message : (m : Message) (item : Item) (W : Outstanding) → P m → AllOutstanding P W → AllOutstanding P (after_message m item W)
  unfolding after_message
  hold_message m (items.Call call target method value) W its all = elim (is_none_of m.copies) as (λ b. AllOutstanding P (if b then make_ready m W else wait m W)) [ true ↦ hold_ready m W its all | false ↦ hold_wait m W its all ]
  hold_message m (items.Reply call status value) W its all = hold_calls (call_after_reply m.from call) (if is_none_of m.copies then make_reply m W else wait m W) (elim (is_none_of m.copies) as (λ b. AllOutstanding P (if b then make_reply m W else wait m W)) [ true ↦ hold_reply m W its all | false ↦ hold_wait m W its all ])
  hold_message m (_) W its all = all

  hold_act : (p k : ℕ) (D : List Deed) (found : Option Item) (W : Outstanding) → ((item : Item) → found ≡ Some item → P (new_message s n p k item (Act p k ∷ D))) → AllOutstanding P W → AllOutstanding P (after_act s n p k D found W)
  unfolding after_act
  hold_act p k D None W new all = all
  hold_act p k D (Some item) W new all = hold_message (new_message s n p k item (Act p k ∷ D)) item W (new item refl) all

  -- a message that was settled
  hold_settled : (m : Message) (item : Item) (is_lost : Bool) (W : Outstanding) → m.item ≡ item → P m → AllOutstanding P W → AllOutstanding P (after_settlement m item is_lost W)
  unfolding after_settlement
  hold_settled m (items.Call call target method value) true W is its all = all
  hold_settled m (items.Call call target method value) false W is its all = hold_ready m W its all
  hold_settled m (items.Reply call status value) true W is its all = hold_reply (lost_reply m call) W (lost m call status value is its) all
  hold_settled m (items.Reply call status value) false W is its all = hold_reply m W its all
  hold_settled m (_) is_lost W is its all = all

  hold_settle : (p k : ℕ) (D : List Deed) (found : Option Message) (W : Outstanding) → find (is_of p k) W.waiting ≡ found → AllOutstanding P W → AllOutstanding P (after_settle s n p k D found W)
  unfolding after_settle
  hold_settle p k D None W is all = all
  hold_settle p k D (Some m) W is all = hold_settled m m.item (is_lost_message s n D m) (without_waiting p k W) refl (all_found P (is_of p k) W.waiting m is all.waiting)
      record { waiting = all_without P (is_of p k) W.waiting all.waiting; ready = all.ready; running = all.running; replies = all.replies }

  -- a job that was claimed
  hold_claim : (job : Job) (found : Option Message) (W : Outstanding) → find (is_job job) W.ready ≡ found → AllOutstanding P W → AllOutstanding P (after_claim job found W)
  unfolding after_claim
  hold_claim job None W is all = all
  hold_claim job (Some m) W is all = record { waiting = all.waiting; ready = all_without P (is_job job) W.ready all.ready; running = (all_found P (is_job job) W.ready m is all.ready, all.running); replies = all.replies }

  -- what is new outstanding by a deed: the message of the item that was acted on
  abbrev pub New : Deed → List Deed → Type 0
  New (Act p k) D = (item : Item) → item_at p k D ≡ Some item → P (new_message s n p k item (Act p k ∷ D))
  New (_) D = ⊤

  -- a deed, the loans aside
  hold_deed : (deed : Deed) (D : List Deed) (W : Outstanding) → New deed D → AllOutstanding P W → AllOutstanding P (work_after s n deed D W)
  unfolding work_after after_call after_take after_end after_finish after_close
  hold_deed (Call target method value call) D W new all = record { waiting = all.waiting; ready = all.ready; running = all.running; replies = all.replies }
  hold_deed (TakeReply call status value) D W new all = record { waiting = all_filter P (is_not_reply call) W.waiting all.waiting; ready = all.ready; running = all.running; replies = all_filter P (is_not_reply call) W.replies all.replies }
  hold_deed (TakeEnd call) D W new all = record { waiting = all.waiting; ready = all.ready; running = all.running; replies = all.replies }
  hold_deed (Claim job) D W new all = hold_claim job (find (is_job job) W.ready) W refl all
  hold_deed (Finish job outcome) D W new all = record { waiting = all.waiting; ready = all.ready; running = all_filter (λ (run : Run). P run.message) (λ run. not (is_run job run)) W.running all.running; replies = all.replies }
  hold_deed (DropReply job) D W new all = record { waiting = all.waiting; ready = all.ready; running = all_filter (λ (run : Run). P run.message) (λ run. not (is_run job run)) W.running all.running; replies = all.replies }
  hold_deed (Act p k) D W new all = hold_act p k D (item_at p k D) W new all
  hold_deed (Settle p k) D W new all = hold_settle p k D (find (is_of p k) W.waiting) W refl all
  hold_deed (Closing p reason cause) D W new all = record { waiting = all_filter P (is_not_from p) W.waiting all.waiting; ready = all_filter P (is_not_from p) W.ready all.ready; running = all.running; replies = all.replies }
  hold_deed (_) D W new all = all

  -- what the loans of a deed don't change is kept by it, where it holds of the message that comes
  pub outstanding_more : (deed : Deed) (D : List Deed) → ((m : Message) → P m → P (message_after s n (deed ∷ D) m)) → New deed D → AllOutstanding P (work s n D) → AllOutstanding P (work s n (deed ∷ D))
  unfolding with_loans run_after
  outstanding_more deed D kept new all =
      let W : Outstanding = work_after s n deed D (work s n D) in
      let before : AllOutstanding P W = hold_deed deed D (work s n D) new all in
      record {
        waiting = all_mapped P (λ m. message_after s n (deed ∷ D) m) kept W.waiting before.waiting;
        ready = all_mapped P (λ m. message_after s n (deed ∷ D) m) kept W.ready before.ready;
        running = all_mapped (λ (run : Run). P run.message) (λ run. run_after s n (deed ∷ D) run) (λ run its. kept run.message its) W.running before.running;
        replies = all_mapped P (λ m. message_after s n (deed ∷ D) m) kept W.replies before.replies;
      }
