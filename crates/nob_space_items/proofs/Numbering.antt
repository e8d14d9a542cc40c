-- A message that waits has the number of an item.
use Rattle.std.proofs.Common.{◌≡◌, ℕ, ◌+◌, ◌≤◌, ◌<◌, Bool, true, false, List, [], ◌∷◌, length, drop, find, Option, Some, None, Ok, IsOk, IsSome, if◌then◌else◌, refl, sym, subst, arith}
use Prim.Native.Nat.{zero, suc}
use Rattle.std.specs.List.{AllByRecursion}
use Rattle.std.proofs.lemmas.Bool.Decides.{nat_tests}
use Rattle.nob_ids.specs.declared.limits.Limits.{Limits}
use Rattle.nob_item.specs.Judging.{is_call_number, is_item_number}
use Rattle.nob_item.specs.Writing.{bytes_of}
use Rattle.nob_item.specs.declared.item.Item.{Item}
use Rattle.nob_item.specs.declared.item.Item.TheVariants as items
use Rattle.nob_pickle.specs.Writing.{pickle_of}
use Rattle.nob_model_session.specs.End.{last_item, is_present, is_open, accepted_count, accepted, filled, places, takes}
use Rattle.nob_model_session.specs.Right.{first_of}
use Rattle.nob_model_session.specs.Accepting.{AllCame}
use Rattle.nob_model_session.specs.declared.entry.Arrived.TheVariants as arrived
use Rattle.nob_model_session.specs.declared.entry.EndEntry.{EndEntry}
use Rattle.nob_model_session.specs.declared.entry.EndEntry.TheVariants as ends
use Rattle.nob_model_types.specs.declared.answer.Job.{Job}
use Rattle.nob_model_types.specs.declared.deed.Deed.{Deed}
use Rattle.nob_model_types.specs.declared.deed.Deed.TheVariants.{Call, TakeReply, TakeEnd, Claim, Finish, DropReply, Act, Settle, Closing}
use Rattle.nob_model_types.specs.declared.message.Message.{Message}
use Rattle.nob_model_types.specs.Messages.{new_message, message_after, is_of, is_not_from, is_job, is_lost_message}
use Rattle.nob_model_types.specs.Sessions.{item_at}
use Rattle.nob_model_work.specs.declared.work.Outstanding.{Outstanding}
use Rattle.nob_model_work.specs.Work.{work, work_after, with_loans, is_none_of, wait, make_ready, make_reply, is_not_reply, after_message, after_act, after_settlement, after_settle, after_claim, after_call, after_take, after_end, after_finish, after_close, without_waiting}
use Rattle.nob_model_history.specs.Histories.{history_of}
use Rattle.nob_model_history.specs.Ends.{calls_at}
use Rattle.nob_model_history.proofs.Arriving.{accepts_more}
use Rattle.nob_model.specs.Laws.{AreRightCalls}
use Rattle.nob_model.specs.Lists.{AreRightDeeds, IsRightDeed}
use Rattle.nob_space_items.specs.Settling.{reply_to_lost}
use Rattle.nob_model_session.proofs.Arriving.{right_came, accepted_length, accepted_few}
use Rattle.nob_model.proofs.Calling.{calls_law}
use Rattle.nob_model.proofs.Carrying.{all_push, all_filter, all_without, all_found, all_mapped}
use Rattle.nob_model.proofs.Waiting.{act_number, are_waiting, IsOpenIn}

-- ---- as many items as have numbers

-- where something is left of a list behind a place, the list is longer
some_left : (n k : ℕ) (all : List (List ℕ)) → IsSome (first_of n (drop k all)) → k < length all
some_left n zero [] some = absurd (cc)
some_left n (suc k) [] some = absurd (cc)
some_left n zero (x ∷ xs) some = omega arith
some_left n (suc k) (x ∷ xs) some = let less = some_left n k xs some in omega (arith, less)

some_waits : (b : Bool) (n k : ℕ) (all : List (List ℕ)) → IsSome (first_of n (if b then drop k all else [])) → k < length all
some_waits true n k all some = some_left n k all some
some_waits false n k all some = absurd (cc)

-- the calls of a list of right answers accepted what came
all_came : (me peer : ℕ) (limits : Limits) (L : List EndEntry) → AreRightCalls me peer limits L → AllCame L
all_came me peer limits [] right = tt
all_came me peer limits (call ∷ L) right = (right_came me peer limits call L right.0, all_came me peer limits L right.1)

-- what was taken was accepted
taken_accepted : (me peer : ℕ) (limits : Limits) (L : List EndEntry) → AreRightCalls me peer limits L → takes L ≤ length (accepted L)
taken_accepted me peer limits [] right = omega arith
taken_accepted me peer limits (ends.Reopen k (Ok done) ∷ L) right = omega arith
taken_accepted me peer limits (ends.Take ∷ L) right = let more = some_waits (is_open L) (takes L + 1) (takes L) (accepted L) right.0 in omega (arith, more)
taken_accepted me peer limits (ends.Arrive frame (Ok (arrived.Took k)) ∷ L) right =
    let before = taken_accepted me peer limits L right.1 in
    let more = accepts_more (is_present frame L) (accepted L) (filled (places (accepted_count L + 1) k (ends.Arrive frame (Ok (arrived.Took k)) ∷ L))) in
    omega (arith, before, more)
taken_accepted me peer limits (call ∷ L) right = taken_accepted me peer limits L right.1

-- and all that was accepted has a number
counts_right : (me peer : ℕ) (limits : Limits) (L : List EndEntry) → AreRightCalls me peer limits L → (takes L ≤ length (accepted L)) × (length (accepted L) ≤ last_item)
counts_right me peer limits L right =
    let came = all_came me peer limits L right in
    (taken_accepted me peer limits L right, subst (λ (k : ℕ). k ≤ last_item) (sym (accepted_length L came)) (accepted_few L came))

-- ---- counted from 1

-- its number is counted from 1
abbrev IsNumbered : Message → Type 0
IsNumbered m = 1 ≤ m.number

message_low : (p k : ℕ) (m : Message) (item : Item) (W : Outstanding) → IsNumbered m → AllByRecursion IsNumbered W.waiting → AllByRecursion IsNumbered (after_message m item W).waiting
unfolding after_message
message_low p k m (items.Call call target method value) W its all = elim (is_none_of m.copies) as (λ b. AllByRecursion IsNumbered (if b then make_ready m W else wait m W).waiting) [ true ↦ all | false ↦ all_push IsNumbered W.waiting m all its ]
message_low p k m (items.Reply call status value) W its all = elim (is_none_of m.copies) as (λ b. AllByRecursion IsNumbered (if b then make_reply m W else wait m W).waiting) [ true ↦ all | false ↦ all_push IsNumbered W.waiting m all its ]
message_low p k m (items.Settle item) W its all = all
message_low p k m (items.Dirty index) W its all = all
message_low p k m (items.DirtyOk index) W its all = all
message_low p k m (items.DirtyNo index) W its all = all
message_low p k m (items.Clean index) W its all = all

settled_low : (m : Message) (item : Item) (lost : Bool) (W : Outstanding) → AllByRecursion IsNumbered W.waiting → AllByRecursion IsNumbered (after_settlement m item lost W).waiting
unfolding after_settlement
settled_low m (items.Call call target method value) true W all = all
settled_low m (items.Call call target method value) false W all = all
settled_low m (items.Reply call status value) true W all = all
settled_low m (items.Reply call status value) false W all = all
settled_low m (items.Settle item) lost W all = all
settled_low m (items.Dirty index) lost W all = all
settled_low m (items.DirtyOk index) lost W all = all
settled_low m (items.DirtyNo index) lost W all = all
settled_low m (items.Clean index) lost W all = all

module _ (s n : ℕ) (limits : Limits) where
  act_low : (p k : ℕ) (D : List Deed) (item : Option Item) (W : Outstanding) → 1 ≤ k → AllByRecursion IsNumbered W.waiting → AllByRecursion IsNumbered (after_act s n p k D item W).waiting
  unfolding after_act
  act_low p k D None W low all = all
  act_low p k D (Some item) W low all = message_low p k (new_message s n p k item (Act p k ∷ D)) item W low all

  settle_low : (p k : ℕ) (D : List Deed) (found : Option Message) (W : Outstanding) → AllByRecursion IsNumbered W.waiting → AllByRecursion IsNumbered (after_settle s n p k D found W).waiting
  unfolding after_settle
  settle_low p k D None W all = all
  settle_low p k D (Some m) W all = settled_low m m.item (is_lost_message s n D m) (without_waiting p k W) (all_without IsNumbered (is_of p k) W.waiting all)

  claim_low : (job : Job) (found : Option Message) (W : Outstanding) → AllByRecursion IsNumbered W.waiting → AllByRecursion IsNumbered (after_claim job found W).waiting
  unfolding after_claim
  claim_low job None W all = all
  claim_low job (Some m) W all = all

  deed_low : (deed : Deed) (D : List Deed) (W : Outstanding) → IsRightDeed s n limits deed D → AllByRecursion IsNumbered W.waiting → AllByRecursion IsNumbered (work_after s n deed D W).waiting
  unfolding work_after after_call after_take after_end after_finish after_close
  deed_low (Call target method value call) D W right all = all
  deed_low (TakeReply call status value) D W right all = all_filter IsNumbered (is_not_reply call) W.waiting all
  deed_low (TakeEnd call) D W right all = all
  deed_low (Claim job) D W right all = claim_low job (find (is_job job) W.ready) W all
  deed_low (Finish job outcome) D W right all = all
  deed_low (DropReply job) D W right all = all
  deed_low (Act p k) D W right all = let next = act_number s n limits p k D right in act_low p k D (item_at p k D) W (omega (arith, next)) all
  deed_low (Settle p k) D W right all = settle_low p k D (find (is_of p k) W.waiting) W all
  deed_low (Closing p reason cause) D W right all = all_filter IsNumbered (is_not_from p) W.waiting all
  deed_low (_) D W right all = all

  all_low : (D : List Deed) → AreRightDeeds s n limits D → AllByRecursion IsNumbered (work s n D).waiting
  unfolding with_loans message_after
  all_low [] right = tt
  all_low (deed ∷ D) right = all_mapped IsNumbered (λ message. message_after s n (deed ∷ D) message) (λ message low. low) (work_after s n deed D (work s n D)).waiting (deed_low deed D (work s n D) right.0 (all_low D right.1))

  -- a message that waits has the number of an item
  pub number_there : (D : List Deed) (test : Message → Bool) (m : Message) → AreRightDeeds s n limits D → find test (work s n D).waiting ≡ Some m → is_item_number m.number ≡ true
  number_there D test m right found =
      let low = all_found IsNumbered test (work s n D).waiting m found (all_low D right) in
      let open_in : IsOpenIn s n D m = all_found (IsOpenIn s n D) test (work s n D).waiting m found (are_waiting s n limits D right).0 in
      let counts = counts_right s m.from limits (calls_at m.from (history_of s n D)) (calls_law s n limits D right m.from) in
      let taken = open_in.1 in
      let few = counts.0 in
      let under = counts.1 in
      let high : m.number ≤ last_item = omega (arith, taken, few, under) in
      grind (arith, nat_tests, low, high)

-- a Settle of an item's number has a spelling
pub settle_spelled : (k : ℕ) → is_item_number k ≡ true → IsOk (bytes_of (items.Settle k))
settle_spelled k number = rw number refl

-- so has the Reply to a Call with a lost reference
pub reply_spelled : (call : ℕ) (reply : Item) → reply ≡ reply_to_lost call → is_call_number call ≡ true → IsOk (bytes_of reply)
unfolding pickle_of
reply_spelled call reply is number = subst (λ (item : Item). IsOk (bytes_of item)) (sym is) (rw number refl)
