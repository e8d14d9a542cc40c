-- Ready jobs are Calls, so the message to claim is one; and a Claim starts the message that it named.
use Rattle.std.proofs.Common.{◌≡◌, ℕ, ◌+◌, not, Bool, true, false, cond, List, [], ◌∷◌, ◌++◌, map, filter, find, Option, Some, None, Result, Err, refl, sym, ap, ◌∙◌}
use Rattle.std.specs.Prelude.{◌==◌, ⊤, nat_le, is_some, MatchOption}
use Rattle.std.specs.List.{AllByRecursion, list_any}
use Rattle.std.proofs.lemmas.Bool.{eqb-true, eq-eqb, and_parts, and_from, both_ways, false_from_ne_true}
use Rattle.std.proofs.lemmas.Cmp.{int_eq_equiv, nat_list_eq_equiv}
use Rattle.nob_ids.specs.declared.limits.Limits.{Limits}
use Rattle.nob_pickle.specs.Shape.{tree}
use Rattle.nob_pickle.specs.Trees.{Tree, Trees, unit, int, bytes, list, ref, none, more}
use Rattle.nob_item.specs.declared.item.Item.{Item}
use Rattle.nob_item.specs.declared.item.Item.TheVariants as items
use Rattle.nob_model_types.specs.declared.answer.Answer.{Answer}
use Rattle.nob_model_types.specs.declared.refusal.Refusal.{Refusal}
use Rattle.nob_model_types.specs.declared.refusal.Refusal.TheVariants as refusals
use Rattle.nob_model_types.specs.declared.answer.Job.{Job}
use Rattle.nob_model_types.specs.declared.deed.Deed.{Deed}
use Rattle.nob_model_types.specs.declared.deed.Deed.TheVariants as did
use Rattle.nob_model_types.specs.declared.message.Message.{Message}
use Rattle.nob_model_types.specs.Sessions.{item_at}
use Rattle.nob_model_types.specs.Messages.{new_message, message_after, is_of, is_not_from, is_call_of, is_job, is_lost_message}
use Rattle.nob_model_types.specs.Same.{same_tree, same_trees}
use Rattle.nob_model_history.proofs.Dirtying.{same_self}
use Rattle.nob_model_work.specs.declared.work.Outstanding.{Outstanding}
use Rattle.nob_model_work.specs.Work.{without_first, wait, make_ready, make_reply, is_none_of, after_message, after_act, after_settlement, without_waiting, after_settle, after_claim, after_finish, after_take, after_end, after_call, after_close, work_after, with_loans, work}
use Rattle.nob_model_history.specs.Histories.{history_of}
use Rattle.nob_model_acting.specs.Candidates.{target_of, is_free, to_claim}
use Rattle.nob_model.specs.Right.{last_number, jobs_made, job_of, claim_of, right_claim, right_after}
use Rattle.nob_model.specs.Lists.{IsRightDeed}
use Rattle.nob_model.proofs.Doing.{was_answered}
use Rattle.nob_model.proofs.Accepted.{found_passes, claim_tells}
use Rattle.nob_model.specs.Laws.{is_possible, ClaimLaw}

-- whether an item is a Call
abbrev pub is_a_call : Item → Bool
is_a_call (items.Call call target method value) = true
is_a_call (items.Reply call status value) = false
is_a_call (items.Settle item) = false
is_a_call (items.Dirty index) = false
is_a_call (items.DirtyOk index) = false
is_a_call (items.DirtyNo index) = false
is_a_call (items.Clean index) = false

-- each of these messages is a Call
abbrev pub AreCalls : List Message → Type 0
AreCalls messages = AllByRecursion (λ (message : Message). is_a_call message.item ≡ true) messages

-- ---- lists of Calls

push_call : (messages : List Message) (message : Message) → AreCalls messages → is_a_call message.item ≡ true → AreCalls (messages ++ message ∷ [])
push_call [] message are is = (is, tt)
push_call (first ∷ messages) message are is = (are.0, push_call messages message are.1 is)

filter_step : (b : Bool) (message : Message) (kept : List Message) → is_a_call message.item ≡ true → AreCalls kept → AreCalls (cond b (message ∷ kept) kept)
filter_step true message kept is are = (is, are)
filter_step false message kept is are = are

filter_calls : (test : Message → Bool) (messages : List Message) → AreCalls messages → AreCalls (filter test messages)
filter_calls test [] are = tt
filter_calls test (message ∷ messages) are = filter_step (test message) message (filter test messages) are.0 (filter_calls test messages are.1)

first_step : (b : Bool) (message : Message) (messages kept : List Message) → is_a_call message.item ≡ true → AreCalls messages → AreCalls kept → AreCalls (cond b messages (message ∷ kept))
first_step true message messages kept is are less = are
first_step false message messages kept is are less = (is, less)

without_calls : (test : Message → Bool) (messages : List Message) → AreCalls messages → AreCalls (without_first test messages)
without_calls test [] are = tt
without_calls test (message ∷ messages) are = first_step (test message) message messages (without_first test messages) are.0 are.1 (without_calls test messages are.1)

loans_calls : (s n : ℕ) (D : List Deed) (messages : List Message) → AreCalls messages → AreCalls (map (λ message. message_after s n D message) messages)
unfolding message_after
loans_calls s n D [] are = tt
loans_calls s n D (message ∷ messages) are = (are.0, loans_calls s n D messages are.1)

-- ---- one deed more

message_ready : (b : Bool) (message : Message) (W : Outstanding) → is_a_call message.item ≡ true → AreCalls W.ready → AreCalls (cond b (make_ready message W) (wait message W)).ready
message_ready true message W is are = push_call W.ready message are is
message_ready false message W is are = are

reply_ready : (b : Bool) (message : Message) (W : Outstanding) → AreCalls W.ready → AreCalls (cond b (make_reply message W) (wait message W)).ready
reply_ready true message W are = are
reply_ready false message W are = are

acted_ready : (message : Message) (item : Item) (W : Outstanding) → message.item ≡ item → AreCalls W.ready → AreCalls (after_message message item W).ready
unfolding after_message
acted_ready message (items.Call call target method value) W is are = message_ready (is_none_of message.copies) message W (ap is_a_call is) are
acted_ready message (items.Reply call status value) W is are = reply_ready (is_none_of message.copies) message W are
acted_ready message (items.Settle item) W is are = are
acted_ready message (items.Dirty index) W is are = are
acted_ready message (items.DirtyOk index) W is are = are
acted_ready message (items.DirtyNo index) W is are = are
acted_ready message (items.Clean index) W is are = are

act_ready : (s n p k : ℕ) (D : List Deed) (found : Option Item) (W : Outstanding) → AreCalls W.ready → AreCalls (after_act s n p k D found W).ready
unfolding after_act
act_ready s n p k D None W are = are
act_ready s n p k D (Some item) W are = acted_ready (new_message s n p k item (did.Act p k ∷ D)) item W refl are

settled_ready : (message : Message) (item : Item) (lost : Bool) (W : Outstanding) → message.item ≡ item → AreCalls W.ready → AreCalls (after_settlement message item lost W).ready
unfolding after_settlement
settled_ready message (items.Call call target method value) true W is are = are
settled_ready message (items.Call call target method value) false W is are = push_call W.ready message are (ap is_a_call is)
settled_ready message (items.Reply call status value) true W is are = are
settled_ready message (items.Reply call status value) false W is are = are
settled_ready message (items.Settle item) lost W is are = are
settled_ready message (items.Dirty index) lost W is are = are
settled_ready message (items.DirtyOk index) lost W is are = are
settled_ready message (items.DirtyNo index) lost W is are = are
settled_ready message (items.Clean index) lost W is are = are

settle_ready : (s n p k : ℕ) (D : List Deed) (found : Option Message) (W : Outstanding) → AreCalls W.ready → AreCalls (after_settle s n p k D found W).ready
unfolding after_settle
settle_ready s n p k D None W are = are
settle_ready s n p k D (Some message) W are = settled_ready message message.item (is_lost_message s n D message) (without_waiting p k W) refl are

claim_ready : (job : Job) (found : Option Message) (W : Outstanding) → AreCalls W.ready → AreCalls (after_claim job found W).ready
unfolding after_claim
claim_ready job None W are = are
claim_ready job (Some message) W are = without_calls (is_job job) W.ready are

ready_after : (s n : ℕ) (deed : Deed) (D : List Deed) (W : Outstanding) → AreCalls W.ready → AreCalls (work_after s n deed D W).ready
unfolding work_after after_call after_take after_end after_finish after_close
ready_after s n (did.Claim job) D W are = claim_ready job (find (is_job job) W.ready) W are
ready_after s n (did.Act p k) D W are = act_ready s n p k D (item_at p k D) W are
ready_after s n (did.Settle p k) D W are = settle_ready s n p k D (find (is_of p k) W.waiting) W are
ready_after s n (did.Closing p reason cause) D W are = filter_calls (is_not_from p) W.ready are
ready_after s n (did.Call target method value call) D W are = are
ready_after s n (did.TakeReply call status value) D W are = are
ready_after s n (did.TakeEnd call) D W are = are
ready_after s n (did.Finish job outcome) D W are = are
ready_after s n (did.DropReply job) D W are = are
ready_after s n deed D W are = are

-- the ready jobs of a space are Calls
pub ready_calls : (s n : ℕ) (D : List Deed) → AreCalls (work s n D).ready
unfolding with_loans
ready_calls s n [] = tt
ready_calls s n (deed ∷ D) = loans_calls s n (deed ∷ D) (work_after s n deed D (work s n D)).ready (ready_after s n deed D (work s n D) (ready_calls s n D))

-- ---- Claim

find_step : (test : Message → Bool) (b : Bool) (message : Message) (found : Option Message) → is_a_call message.item ≡ true → MatchOption found ⊤ (λ one. is_a_call one.item ≡ true) → MatchOption (cond b (Some message) found) ⊤ (λ one. is_a_call one.item ≡ true)
find_step test true message found is rest = is
find_step test false message found is rest = rest

found_call : (test : Message → Bool) (messages : List Message) → AreCalls messages → MatchOption (find test messages) ⊤ (λ one. is_a_call one.item ≡ true)
found_call test [] are = tt
found_call test (message ∷ messages) are = find_step test (test message) message (find test messages) are.0 (found_call test messages are.1)

call_job : (j p : ℕ) (item : Item) → is_a_call item ≡ true → is_possible (job_of j p item) ≡ true
unfolding job_of
call_job j p (items.Call call target method value) is = refl
call_job j p (items.Reply call status value) is = cc
call_job j p (items.Settle item) is = cc
call_job j p (items.Dirty index) is = cc
call_job j p (items.DirtyOk index) is = cc
call_job j p (items.DirtyNo index) is = cc
call_job j p (items.Clean index) is = cc

limit_step : (full : Bool) (rest : Result Answer Refusal) → is_possible rest ≡ true → true ≡ is_possible (cond full (Err refusals.Limit) rest)
limit_step true rest can = refl
limit_step false rest can = sym can

claim_found : (made : ℕ) (found : Option Message) → MatchOption found ⊤ (λ one. is_a_call one.item ≡ true) → is_some found ≡ is_possible (claim_of made found)
unfolding claim_of
claim_found made None is = refl
claim_found made (Some message) is = limit_step (nat_le last_number made) (job_of (made + 1) message.from message.item) (call_job (made + 1) message.from message.item is)

pub claim_law : ClaimLaw
unfolding right_claim
claim_law s n D = claim_found (jobs_made D) (to_claim (history_of s n D)) (found_call (is_free (work s n D)) (work s n D).ready (ready_calls s n D))

-- ---- the message that a Claim starts

mutual
  -- a tree is the same as itself
  self_tree : (t : Tree) → same_tree t t ≡ true
  self_tree unit = refl
  self_tree (int a) = int_eq_equiv.refl a
  self_tree (bytes a) = nat_list_eq_equiv.refl a
  self_tree (list a) = self_trees a
  self_tree (ref a) = same_self a

  self_trees : (ts : Trees) → same_trees ts ts ≡ true
  self_trees none = refl
  self_trees (more t ts) = and_from (same_tree t t) (same_trees ts ts) (self_tree t) (self_trees ts)

-- a message that is the Call of a job has its contents
job_message : (job : Job) (message : Message) → job.client ≡ message.from → message.item ≡ items.Call job.call job.target job.method job.value → is_job job message ≡ true
job_message job message client item =
    and_from (message.from == job.client) (is_call_of job message.item) (eq-eqb message.from job.client (sym client))
    (ap (is_call_of job) item ∙ and_from _ _ (and_from _ _ (and_from _ _ (eq-eqb job.call job.call refl) (eq-eqb job.target job.target refl)) (eq-eqb job.method job.method refl)) (self_tree (tree job.value)))

-- an item with the contents of a job calls its target
job_target : (job : Job) (item : Item) → is_call_of job item ≡ true → target_of item ≡ job.target
job_target job (items.Call call target method value) is = eqb-true target job.target (and_parts (call == job.call) (target == job.target) (and_parts _ _ (and_parts _ _ is).0).0).1
job_target job (items.Reply call status value) is = cc
job_target job (items.Settle item) is = cc
job_target job (items.Dirty index) is = cc
job_target job (items.DirtyOk index) is = cc
job_target job (items.DirtyNo index) is = cc
job_target job (items.Clean index) is = cc

-- what isn't free hasn't the contents of a job whose target is
not_free_other : (W : Outstanding) (job : Job) (message : Message) → target_of message.item ≡ job.target → is_free W message ≡ true → (other : Message) → is_free W other ≡ false → is_job job other ≡ false
not_free_other W job message target free other busy =
    let same : is_job job other ≡ true → target_of other.item ≡ target_of message.item = λ is. job_target job other.item (and_parts (other.from == job.client) (is_call_of job other.item) is).1 ∙ sym target in
    false_from_ne_true (is_job job other) (λ is. both_ways (is_free W other) busy (ap (λ (t : ℕ). not (list_any (λ run. target_of run.message.item == t) W.running)) (same is) ∙ free))

some_same : {A : Type 0} (x y : A) → Some x ≡ Some y → x ≡ y
some_same x y e = cc

none_some : {A : Type 0} (x : A) → None ≡ Some x → ⊥
none_some x e = cc

by_step : {A : Type 0} (test other : A → Bool) (found first : A) (rest again : Option A) → ((x : A) → test x ≡ false → other x ≡ false) → other found ≡ true → (rest ≡ Some found → again ≡ Some found) → (b : Bool) → test first ≡ b → cond b (Some first) rest ≡ Some found → cond (other first) (Some first) again ≡ Some found
by_step test other found first rest again unlike passes behind true is here =
    let same : first ≡ found = some_same first found here in
    ap (λ (b : Bool). cond b (Some first) again) (ap other same ∙ passes) ∙ ap Some same
by_step test other found first rest again unlike passes behind false is here = ap (λ (b : Bool). cond b (Some first) again) (unlike first is) ∙ behind here

-- what a search finds another finds too, if it passes there, and what doesn't pass here doesn't pass there
found_by : {A : Type 0} (test other : A → Bool) (xs : List A) (found : A) → ((x : A) → test x ≡ false → other x ≡ false) → other found ≡ true → find test xs ≡ Some found → find other xs ≡ Some found
found_by test other [] found unlike passes here = absurd (none_some found here)
found_by test other (x ∷ xs) found unlike passes here = by_step test other found x (find test xs) (find other xs) unlike passes (found_by test other xs found unlike passes) (test x) refl here

-- a right Claim starts the message that it named: the first ready job whose target isn't running
pub claimed_message : (s n : ℕ) (limits : Limits) (job : Job) (D : List Deed) → IsRightDeed s n limits (did.Claim job) D → (message : Message) × (to_claim (history_of s n D) ≡ Some message) × (find (is_job job) (work s n D).ready ≡ Some message)
unfolding right_after
claimed_message s n limits job D right =
    let told = claim_tells job (history_of s n D) (was_answered s n limits (did.Claim job) D right) in
    let message : Message = told.0 in
    let target : target_of message.item ≡ job.target = ap target_of told.4 in
    let free = found_passes (is_free (work s n D)) (work s n D).ready message told.1 in
    (message, told.1, found_by (is_free (work s n D)) (is_job job) (work s n D).ready message (not_free_other (work s n D) job message target free) (job_message job message told.3 told.4) told.1)
