-- Messages that wait came in the present session with their sender: a close of that takes them away.
use Rattle.std.proofs.Common.{◌≡◌, ℕ, Bool, true, false, List, [], ◌∷◌, ◌++◌, map, ◌≤◌, find, Option, Some, None, if◌then◌else◌, refl, sym, subst, ◌∙◌, arith}
use Rattle.std.specs.Prelude.{◌==◌}
use Rattle.std.specs.List.{AllByRecursion}
use Rattle.std.proofs.lemmas.Bool.{eqb-true, eqb-false, eq-eqb, ne_eqb, both_ways}
use Rattle.nob_ids.specs.declared.limits.Limits.{Limits}
use Rattle.nob_pickle.specs.declared.value.Value.{Value}
use Rattle.nob_item.specs.declared.item.Item.{Item}
use Rattle.nob_item.specs.declared.item.Item.TheVariants as items
use Rattle.nob_model_types.specs.declared.answer.Job.{Job}
use Rattle.nob_model_types.specs.declared.deed.Deed.{Deed}
use Rattle.nob_model_types.specs.declared.deed.Deed.TheVariants as did
use Rattle.nob_model_types.specs.declared.message.Message.{Message}
use Rattle.nob_model_types.specs.Sessions.{closed, number, item_at}
use Rattle.nob_model_types.specs.Messages.{new_message, message_after, is_of, is_not_from, is_job, is_lost_message}
use Rattle.nob_model_work.specs.declared.work.Outstanding.{Outstanding}
use Rattle.nob_model_work.specs.Work.{without_first, is_none_of, wait, make_ready, make_reply, lost_reply, with_calls, call_after_reply, is_not_reply, after_message, after_act, after_settlement, without_waiting, after_settle, after_claim, after_finish, after_take, after_end, after_call, after_close, work_after, with_loans, work}
use Rattle.nob_model_history.proofs.Sessions.{number_kept}
use Rattle.nob_model.specs.Lists.{AreRightDeeds}
use Rattle.nob_model.proofs.Carrying.{AllOutstanding, all_filter}
use Rattle.nob_model.proofs.Reopening.{open_closed}
use Rattle.nob_model.proofs.Waiting.{IsOpenIn, are_waiting, all_weaker}
use Rattle.nob_model_holdings.proofs.Hands.{New, outstanding_more, hand_weaker}
use Rattle.nob_model_holdings.proofs.Lists.{all_append}
use Rattle.nob_model_invariant.proofs.EachSession.{deed_rises}

-- messages came in the present sessions with their senders
abbrev pub AreOfPresent : List Deed → List Message → Type 0
AreOfPresent D messages = AllByRecursion (λ (m : Message). m.session ≡ number m.from D) messages

-- loans change no session
present_kept : (s n : ℕ) (D E : List Deed) (messages : List Message) → AreOfPresent D messages → AreOfPresent D (map (λ m. message_after s n E m) messages)
unfolding message_after
present_kept s n D E [] all = tt
present_kept s n D E (m ∷ messages) all = (all.0, present_kept s n D E messages all.1)

present_without : (D : List Deed) (test : Message → Bool) (messages : List Message) → AreOfPresent D messages → AreOfPresent D (without_first test messages)
present_without D test [] all = tt
present_without D test (m ∷ messages) all = elim (test m) as (λ b. AreOfPresent D (if b then messages else m ∷ without_first test messages)) [ true ↦ all.1 | false ↦ (all.0, present_without D test messages all.1) ]

present_push : (D : List Deed) (m : Message) (messages : List Message) → m.session ≡ number m.from D → AreOfPresent D messages → AreOfPresent D (messages ++ m ∷ [])
present_push D m messages is all = all_append (λ (one : Message). one.session ≡ number one.from D) messages (m ∷ []) all (is, tt)

message_present : (D : List Deed) (m : Message) (item : Item) (W : Outstanding) → m.session ≡ number m.from D → AreOfPresent D W.waiting → AreOfPresent D (after_message m item W).waiting
unfolding after_message
message_present D m (items.Call call target method value) W is all = elim (is_none_of m.copies) as (λ b. AreOfPresent D (if b then make_ready m W else wait m W).waiting) [ true ↦ all | false ↦ present_push D m W.waiting is all ]
message_present D m (items.Reply call status value) W is all = elim (is_none_of m.copies) as (λ b. AreOfPresent D (with_calls (call_after_reply m.from call) (if b then make_reply m W else wait m W)).waiting) [ true ↦ all | false ↦ present_push D m W.waiting is all ]
message_present D m (items.Settle item) W is all = all
message_present D m (items.Dirty index) W is all = all
message_present D m (items.DirtyOk index) W is all = all
message_present D m (items.DirtyNo index) W is all = all
message_present D m (items.Clean index) W is all = all

act_present : (s n p k : ℕ) (D : List Deed) (found : Option Item) (W : Outstanding) → AreOfPresent D W.waiting → AreOfPresent D (after_act s n p k D found W).waiting
unfolding after_act
act_present s n p k D None W all = all
act_present s n p k D (Some item) W all = message_present D (new_message s n p k item (did.Act p k ∷ D)) item W refl all

settlement_present : (D : List Deed) (m : Message) (item : Item) (lost : Bool) (W : Outstanding) → AreOfPresent D W.waiting → AreOfPresent D (after_settlement m item lost W).waiting
unfolding after_settlement
settlement_present D m (items.Call call target method value) true W all = all
settlement_present D m (items.Call call target method value) false W all = all
settlement_present D m (items.Reply call status value) true W all = all
settlement_present D m (items.Reply call status value) false W all = all
settlement_present D m (_) lost W all = all

settle_present : (s n p k : ℕ) (D : List Deed) (found : Option Message) (W : Outstanding) → AreOfPresent D W.waiting → AreOfPresent D (after_settle s n p k D found W).waiting
unfolding after_settle
settle_present s n p k D None W all = all
settle_present s n p k D (Some m) W all = settlement_present D m m.item (is_lost_message s n D m) (without_waiting p k W) (present_without D (is_of p k) W.waiting all)

claim_present : (D : List Deed) (job : Job) (found : Option Message) (W : Outstanding) → AreOfPresent D W.waiting → AreOfPresent D (after_claim job found W).waiting
unfolding after_claim
claim_present D job None W all = all
claim_present D job (Some m) W all = all

deed_present : (s n : ℕ) (deed : Deed) (D : List Deed) (W : Outstanding) → AreOfPresent D W.waiting → AreOfPresent D (work_after s n deed D W).waiting
unfolding work_after after_call after_take after_end after_finish after_close
deed_present s n (did.Call target method value call) D W all = all
deed_present s n (did.TakeReply call status value) D W all = all_filter (λ (one : Message). one.session ≡ number one.from D) (is_not_reply call) W.waiting all
deed_present s n (did.TakeEnd call) D W all = all
deed_present s n (did.Claim job) D W all = claim_present D job (find (is_job job) W.ready) W all
deed_present s n (did.Finish job outcome) D W all = all
deed_present s n (did.DropReply job) D W all = all
deed_present s n (did.Act p k) D W all = act_present s n p k D (item_at p k D) W all
deed_present s n (did.Settle p k) D W all = settle_present s n p k D (find (is_of p k) W.waiting) W all
deed_present s n (did.Closing p reason cause) D W all = all_filter (λ (one : Message). one.session ≡ number one.from D) (is_not_from p) W.waiting all
deed_present s n deed D W all = all

-- ---- a session that is opened anew

-- nothing that waits came in a session that is opened anew: it had closed
pub none_from : (s n : ℕ) (limits : Limits) (p q k : ℕ) (D : List Deed) → AreRightDeeds s n limits (did.Open q k ∷ D) → (q == p) ≡ true → AllByRecursion (λ (m : Message). (m.from == p) ≡ false) (work s n D).waiting
none_from s n limits p q k D right own = all_weaker (IsOpenIn s n D) (λ (m : Message). (m.from == p) ≡ false) away (work s n D).waiting (are_waiting s n limits D right.1).0
  where
    shut : closed p D ≡ true
    shut = subst (λ (r : ℕ). closed r D ≡ true) (eqb-true q p own) (open_closed s n limits q k D right.0)

    away : (m : Message) → IsOpenIn s n D m → (m.from == p) ≡ false
    away m is = ne_eqb m.from p (λ same. both_ways (closed m.from D) is.0 (subst (λ (r : ℕ). closed r D ≡ true) (sym same) shut))

-- a message that didn't come in it is of the session in which it was
away_present : (q k : ℕ) (D : List Deed) (messages : List Message) → AllByRecursion (λ (m : Message). (m.from == q) ≡ false) messages → AreOfPresent D messages → AreOfPresent (did.Open q k ∷ D) messages
away_present q k D [] away all = tt
away_present q k D (m ∷ messages) away all =
    (all.0 ∙ sym (number_kept m.from (did.Open q k) D (ne_eqb q m.from (λ same. eqb-false m.from q away.0 (sym same)))), away_present q k D messages away.1 all.1)

open_present : (s n : ℕ) (limits : Limits) (deed : Deed) (D : List Deed) → AreRightDeeds s n limits (deed ∷ D) → AreOfPresent D (work s n D).waiting → AreOfPresent (deed ∷ D) (work_after s n deed D (work s n D)).waiting
unfolding work_after
open_present s n limits (did.Open q k) D right all = away_present q k D (work s n D).waiting (none_from s n limits q q k D right (eq-eqb q q refl)) all
open_present s n limits (did.Act p k) D right all = deed_present s n (did.Act p k) D (work s n D) all
open_present s n limits deed D right all = deed_present s n deed D (work s n D) all

-- whatever waits came in the present session
pub waiting_present : (s n : ℕ) (limits : Limits) (D : List Deed) → AreRightDeeds s n limits D → AreOfPresent D (work s n D).waiting
unfolding with_loans
waiting_present s n limits [] right = tt
waiting_present s n limits (deed ∷ D) right =
    present_kept s n (deed ∷ D) (deed ∷ D) (work_after s n deed D (work s n D)).waiting (open_present s n limits deed D right (waiting_present s n limits D right.1))

-- ---- all that is outstanding

-- a message came in a session with its sender that isn't above the present one
abbrev pub IsReached : List Deed → Message → Type 0
IsReached D m = m.session ≤ number m.from D

module _ (s n : ℕ) (D : List Deed) where
  lost_reached : (m : Message) (call status : ℕ) (value : Value) → m.item ≡ items.Reply call status value → IsReached D m → IsReached D (lost_reply m call)
  lost_reached m call status value is low = low

  kept_reached : (E : List Deed) (m : Message) → IsReached D m → IsReached D (message_after s n E m)
  unfolding message_after
  kept_reached E m low = low

new_reached : (s n : ℕ) (deed : Deed) (D : List Deed) → New s n (IsReached (deed ∷ D)) (lost_reached s n (deed ∷ D)) deed D
new_reached s n (did.Act p k) D = λ item is. omega arith
new_reached s n deed D = tt

-- so did all that is outstanding
pub all_reached : (s n : ℕ) (limits : Limits) (D : List Deed) → AreRightDeeds s n limits D → AllOutstanding (IsReached D) (work s n D)
all_reached s n limits [] right = record { waiting = tt; ready = tt; running = tt; replies = tt }
all_reached s n limits (deed ∷ D) right =
    outstanding_more s n (IsReached (deed ∷ D)) (lost_reached s n (deed ∷ D)) deed D (kept_reached s n (deed ∷ D) (deed ∷ D)) (new_reached s n deed D)
    (hand_weaker (IsReached D) (IsReached (deed ∷ D)) (λ m low. let more = deed_rises s n m.from limits deed D right.0 in omega (arith, low, more)) (work s n D) (all_reached s n limits D right.1))
