-- In every list of right deeds each ready job came on a session that is open here, as what waits did.
use Rattle.std.proofs.Common.{◌≡◌, ℕ, ◌||◌, not, Bool, true, false, cond, List, [], ◌∷◌, filter, find, Option, Some, None, if◌then◌else◌, refl, sym}
use Rattle.std.specs.Prelude.{◌==◌}
use Rattle.std.specs.List.{AllByRecursion}
use Rattle.std.proofs.lemmas.Bool.{eqb-false, ne_eqb, or_from, both_ways}
use Rattle.nob_ids.specs.declared.limits.Limits.{Limits}
use Rattle.nob_item.specs.declared.item.Item.{Item}
use Rattle.nob_item.specs.declared.item.Item.TheVariants as items
use Rattle.nob_model_types.specs.declared.answer.Job.{Job}
use Rattle.nob_model_types.specs.declared.deed.Deed.{Deed}
use Rattle.nob_model_types.specs.declared.deed.Deed.TheVariants as did
use Rattle.nob_model_types.specs.declared.message.Message.{Message}
use Rattle.nob_model_types.specs.Sessions.{is_peer, closed, item_at}
use Rattle.nob_model_types.specs.Messages.{new_message, message_after, is_of, is_not_from, is_job, is_lost_message}
use Rattle.nob_model_work.specs.declared.work.Outstanding.{Outstanding}
use Rattle.nob_model_work.specs.Work.{wait, make_ready, make_reply, with_calls, call_after_reply, is_none_of, work, work_after, with_loans, after_message, after_act, after_settlement, after_settle, after_claim, without_waiting, after_finish, after_take, after_end, after_call, after_close}
use Rattle.nob_model.specs.Lists.{AreRightDeeds}
use Rattle.nob_model.proofs.Carrying.{all_push, all_without, all_found, all_mapped}
use Rattle.nob_model.proofs.Waiting.{IsOpenIn, act_open, are_waiting, all_weaker}
use Rattle.nob_model_lives.proofs.Peers.{all_from_peers, IsFromPeer}

-- the session of a message is open here
abbrev pub IsUp : List Deed → Message → Type 0
IsUp D m = closed m.from D ≡ false

claim_up : (job : Job) (found : Option Message) (W : Outstanding) (D : List Deed) → AllByRecursion (IsUp D) W.ready → AllByRecursion (IsUp D) (after_claim job found W).ready
unfolding after_claim
claim_up job None W D all = all
claim_up job (Some m) W D all = all_without (IsUp D) (is_job job) W.ready all

message_up : (m : Message) (item : Item) (W : Outstanding) (D : List Deed) → IsUp D m → AllByRecursion (IsUp D) W.ready → AllByRecursion (IsUp D) (after_message m item W).ready
unfolding after_message
message_up m (items.Call call target method value) W D up all = elim (is_none_of m.copies) as (λ b. AllByRecursion (IsUp D) (if b then make_ready m W else wait m W).ready) [ true ↦ all_push (IsUp D) W.ready m all up | false ↦ all ]
message_up m (items.Reply call status value) W D up all = elim (is_none_of m.copies) as (λ b. AllByRecursion (IsUp D) (with_calls (call_after_reply m.from call) (if b then make_reply m W else wait m W)).ready) [ true ↦ all | false ↦ all ]
message_up m (_) W D up all = all

act_up : (s n p k : ℕ) (D : List Deed) (found : Option Item) (W : Outstanding) → closed p D ≡ false → AllByRecursion (IsUp D) W.ready → AllByRecursion (IsUp D) (after_act s n p k D found W).ready
unfolding after_act
act_up s n p k D None W up all = all
act_up s n p k D (Some item) W up all = message_up (new_message s n p k item (did.Act p k ∷ D)) item W D up all

settled_up : (m : Message) (item : Item) (lost : Bool) (W : Outstanding) (D : List Deed) → IsUp D m → AllByRecursion (IsUp D) W.ready → AllByRecursion (IsUp D) (after_settlement m item lost W).ready
unfolding after_settlement
settled_up m (items.Call call target method value) true W D up all = all
settled_up m (items.Call call target method value) false W D up all = all_push (IsUp D) W.ready m all up
settled_up m (items.Reply call status value) true W D up all = all
settled_up m (items.Reply call status value) false W D up all = all
settled_up m (_) lost W D up all = all

settle_up : (s n p k : ℕ) (D : List Deed) (found : Option Message) (W : Outstanding) → find (is_of p k) W.waiting ≡ found → AllByRecursion (IsUp D) W.waiting → AllByRecursion (IsUp D) W.ready → AllByRecursion (IsUp D) (after_settle s n p k D found W).ready
unfolding after_settle
settle_up s n p k D None W is waits all = all
settle_up s n p k D (Some m) W is waits all = settled_up m m.item (is_lost_message s n D m) (without_waiting p k W) D (all_found (IsUp D) (is_of p k) W.waiting m is waits) all

closing_up : (p : ℕ) (D : List Deed) (ms : List Message) → AllByRecursion (IsUp D) ms → AllByRecursion (λ (m : Message). (p == m.from || closed m.from D) ≡ false) (filter (is_not_from p) ms)
closing_up p D [] all = tt
closing_up p D (m ∷ ms) all = elim (m.from == p) as (λ (b : Bool). (m.from == p) ≡ b → AllByRecursion (λ (m : Message). (p == m.from || closed m.from D) ≡ false) (cond (not b) (m ∷ filter (is_not_from p) ms) (filter (is_not_from p) ms))) [
  | true ↦ λ own. closing_up p D ms all.1
  | false ↦ λ other. (or_from (p == m.from) (closed m.from D) (ne_eqb p m.from (λ same. eqb-false m.from p other (sym same))) all.0, closing_up p D ms all.1)
] refl

opened_up : (now before : Bool) → before ≡ false → cond now false before ≡ false
opened_up true before up = refl
opened_up false before up = up

module _ (s n : ℕ) (limits : Limits) where
  waiting_up : (D : List Deed) → AreRightDeeds s n limits D → AllByRecursion (IsUp D) (work s n D).waiting
  waiting_up D right = all_weaker (IsOpenIn s n D) (IsUp D) (λ m its. its.0) (work s n D).waiting (are_waiting s n limits D right).0

  deed_up : (deed : Deed) (D : List Deed) → AreRightDeeds s n limits (deed ∷ D) → AllByRecursion (IsUp D) (work s n D).ready → AllByRecursion (IsUp (deed ∷ D)) (work_after s n deed D (work s n D)).ready
  unfolding work_after after_call after_take after_end after_finish after_close
  deed_up (did.Claim job) D right all = claim_up job (find (is_job job) (work s n D).ready) (work s n D) D all
  deed_up (did.Act p k) D right all = act_up s n p k D (item_at p k D) (work s n D) (act_open s n limits p k D right.0) all
  deed_up (did.Settle p k) D right all = settle_up s n p k D (find (is_of p k) (work s n D).waiting) (work s n D) refl (waiting_up D right.1) all
  deed_up (did.Closing p reason cause) D right all = closing_up p D (work s n D).ready all
  deed_up (did.Open p k) D right all = all_weaker (IsUp D) (IsUp (did.Open p k ∷ D)) (λ m up. opened_up (p == m.from) (closed m.from D) up) (work s n D).ready all
  deed_up (deed) D right all = all

  kept_up : (D : List Deed) (m : Message) → IsUp D m → IsUp D (message_after s n D m)
  unfolding message_after
  kept_up D m its = its

  -- each ready job came on a session that is open here
  ready_up : (D : List Deed) → AreRightDeeds s n limits D → AllByRecursion (IsUp D) (work s n D).ready
  unfolding with_loans
  ready_up [] right = tt
  ready_up (deed ∷ D) right = all_mapped (IsUp (deed ∷ D)) (λ m. message_after s n (deed ∷ D) m) (kept_up (deed ∷ D)) (work_after s n deed D (work s n D)).ready (deed_up deed D right (ready_up D right.1))

  none_up : (D : List Deed) → ((p : ℕ) → is_peer s n p ≡ true → closed p D ≡ true) → (ms : List Message) → AllByRecursion (IsUp D) ms → AllByRecursion (IsFromPeer s n) ms → ms ≡ []
  none_up D shut [] up peers = refl
  none_up D shut (m ∷ ms) up peers = absurd (both_ways (closed m.from D) up.0 (shut m.from peers.0))

  -- where a session has closed with each peer, no message waits
  pub shut_waiting : (D : List Deed) → AreRightDeeds s n limits D → ((p : ℕ) → is_peer s n p ≡ true → closed p D ≡ true) → (work s n D).waiting ≡ []
  shut_waiting D right shut = none_up D shut (work s n D).waiting (waiting_up D right) (all_from_peers s n limits D right).waiting

  -- and no job is ready
  pub shut_ready : (D : List Deed) → AreRightDeeds s n limits D → ((p : ℕ) → is_peer s n p ≡ true → closed p D ≡ true) → (work s n D).ready ≡ []
  shut_ready D right shut = none_up D shut (work s n D).ready (ready_up D right) (all_from_peers s n limits D right).ready
