-- Claim: what it takes, and what it leaves stands for one deed more.
use Rattle.std.proofs.Common.{◌≡◌, ℕ, ◌+◌, ◌≤◌, ◌<◌, Bool, true, false, not, ◌&&◌, ◌==◌, nat_le, List, ◌∷◌, ◌++◌, find, flat_map, Option, Some, None, Result, Ok, Err, IsOk, if◌then◌else◌, refl, sym, ap, subst, ◌∙◌, arith}
use Rattle.std.specs.List.{list_any}
use Rattle.std.proofs.lemmas.Bool.Decides.{nat_tests}
use Rattle.std.proofs.lemmas.Cmp.{nat_eq_equiv, int_eq_equiv}
use Rattle.std.proofs.lemmas.Slice.Eq.{bytes_eq-Decides}
use Rattle.nob_ids.specs.declared.limits.Limits.{Limits}
use Rattle.nob_ids.specs.declared.wire_rep.WireRep.{WireRep}
use Rattle.nob_item.specs.declared.item.Item.TheVariants as items
use Rattle.nob_pickle.specs.Shape.{tree}
use Rattle.nob_pickle.specs.declared.value.Value.{Value}
use Rattle.nob_pickle.specs.Trees.{Tree, Trees, unit, int, bytes, list, ref, none, more}
use Rattle.nob_table_rows.proofs.Same.{same_refl}
use Rattle.nob_model_types.specs.declared.answer.Answer.{Answer}
use Rattle.nob_model_types.specs.declared.answer.Answer.TheVariants as answers
use Rattle.nob_model_types.specs.declared.refusal.Refusal.{Refusal}
use Rattle.nob_space_state.specs.declared.error.SpaceError.{SpaceError}
use Rattle.nob_space_state.specs.declared.error.SpaceError.TheVariants as errors
use Rattle.nob_model_types.specs.declared.answer.Job.{Job}
use Rattle.nob_model_types.specs.declared.refusal.Refusal.TheVariants as refusals
use Rattle.nob_model_types.specs.declared.deed.Deed.{Deed}
use Rattle.nob_model_types.specs.declared.deed.Deed.TheVariants.{Claim}
use Rattle.nob_model_types.specs.declared.message.Message.{Message}
use Rattle.nob_model_types.specs.declared.message.RefCopy.{RefCopy}
use Rattle.nob_model_types.specs.Same.{same_tree, same_trees}
use Rattle.nob_model_types.specs.Messages.{is_job, is_call_of, message_after, copy_after}
use Rattle.nob_model_work.specs.declared.work.Outstanding.{Outstanding}
use Rattle.nob_model_work.specs.declared.work.Run.{Run}
use Rattle.nob_model_work.specs.Work.{work, work_after, after_claim, with_loans, run_after, without_first}
use Rattle.nob_model_work.specs.Gifts.{gifts, gifts_of}
use Rattle.nob_model_history.specs.Histories.{history_of}
use Rattle.nob_model_history.specs.Holds.{times, loans_of, lent_in}
use Rattle.nob_model.specs.Right.{right_claim, claim_of, job_of, last_number}
use Rattle.nob_model_acting.specs.Candidates.{target_of, is_free}
use Rattle.nob_space_state.specs.Parts.{State, with_work}
use Rattle.nob_model.specs.Lists.{IsRightDeed}
use Rattle.nob_space_state.specs.Stands.{Stands, AnswersOrWants}
use Rattle.nob_space_state.proofs.Firsts.{narrower_first, times_without}
use Rattle.nob_model.proofs.Accepted.{found_passes}
use Rattle.nob_model.proofs.Carrying.{all_found, all_without}
use Rattle.nob_model.proofs.Made.{AreFixed, work_fixed, fixed_stays}
use Rattle.nob_space_state.proofs.Counted.{times_both}

mutual
  -- a tree is the same as itself
  tree_same : (t : Tree) → same_tree t t ≡ true
  tree_same unit = refl
  tree_same (int a) = int_eq_equiv.refl a
  tree_same (bytes a) = (bytes_eq-Decides a a).1 refl
  tree_same (list ts) = trees_same ts
  tree_same (ref r) = same_refl r

  trees_same : (ts : Trees) → same_trees ts ts ≡ true
  trees_same none = refl
  trees_same (more t ts) = rw (tree_same t) (trees_same ts)

-- what a job takes from its message
pub record IsOf (j : ℕ) (message : Message) (job : Job) : Type 0 where
  pub number : job.job ≡ j
  pub contents : is_job job message ≡ true
  pub target : target_of message.item ≡ job.target

-- a Call is the job that has its contents
call_is_job : (j p session k call target method : ℕ) (value : Value) (copies : List RefCopy)
    → IsOf j (record { from = p; session = session; number = k; item = items.Call call target method value; copies = copies }) (record { job = j; call = call; target = target; client = p; method = method; value = value })
call_is_job j p session k call target method value copies = record {
  number = refl;
  contents = rw (nat_eq_equiv.refl p, nat_eq_equiv.refl call, nat_eq_equiv.refl target, nat_eq_equiv.refl method) (tree_same (tree value));
  target = refl;
}

-- the job that a message is has its contents
pub job_is_of : (j : ℕ) (message : Message) (job : Job) → job_of j message.from message.item ≡ Ok (answers.Job job) → IsOf j message job
unfolding job_of
job_is_of j message job is = elim message.item as (λ item. job_of j message.from item ≡ Ok (answers.Job job) → IsOf j (record { from = message.from; session = message.session; number = message.number; item = item; copies = message.copies }) job) [
  | items.Call call target method value ↦ λ e.
      let same : record { job = j; call = call; target = target; client = message.from; method = method; value = value } ≡ job = cc in
      subst (IsOf j (record { from = message.from; session = message.session; number = message.number; item = items.Call call target method value; copies = message.copies })) same (call_is_job j message.from message.session message.number call target method value message.copies)
  | items.Reply call status value ↦ λ e. absurd (cc)
  | items.Settle item ↦ λ e. absurd (cc)
  | items.Dirty index ↦ λ e. absurd (cc)
  | items.DirtyOk index ↦ λ e. absurd (cc)
  | items.DirtyNo index ↦ λ e. absurd (cc)
  | items.Clean index ↦ λ e. absurd (cc)
] is

-- what is false with anything is false
never : (b : Bool) → (b && false) ≡ true → ⊥
never true e = absurd (cc)
never false e = absurd (cc)

-- what has the contents of a job calls its target
calls_target : (job : Job) (message : Message) → is_job job message ≡ true → target_of message.item ≡ job.target
calls_target job message same = elim message.item as (λ item. (message.from == job.client && is_call_of job item) ≡ true → target_of item ≡ job.target) [
  | items.Call call target method value ↦ λ e. grind (arith, nat_tests, e)
  | items.Reply call status value ↦ λ e. absurd (never (message.from == job.client) e)
  | items.Settle item ↦ λ e. absurd (never (message.from == job.client) e)
  | items.Dirty index ↦ λ e. absurd (never (message.from == job.client) e)
  | items.DirtyOk index ↦ λ e. absurd (never (message.from == job.client) e)
  | items.DirtyNo index ↦ λ e. absurd (never (message.from == job.client) e)
  | items.Clean index ↦ λ e. absurd (never (message.from == job.client) e)
] same

-- the first free job is the first that has its contents
pub claimed_first : (W : Outstanding) (m : Message) (job : Job) → find (is_free W) W.ready ≡ Some m → is_free W m ≡ true → is_job job m ≡ true → target_of m.item ≡ job.target
    → (find (is_job job) W.ready ≡ Some m) × (without_first (is_job job) W.ready ≡ without_first (is_free W) W.ready)
claimed_first W m job found free contents target = narrower_first (is_free W) (is_job job) W.ready m (λ x same.
    let one : target_of x.item ≡ target_of m.item = calls_target job x same ∙ sym target in
    ap (λ k. not (list_any (λ run. target_of run.message.item == k) W.running)) one ∙ free) found contents

-- the outstanding work after a Claim
abbrev pub claimed : ℕ → Message → Outstanding → Outstanding
claimed j m W = record { waiting = W.waiting; ready = without_first (is_free W) W.ready; running = record { job = j; message = m } ∷ W.running; replies = W.replies; calls = W.calls }

-- all that is lent is what messages that wait, ready and running jobs and ready replies lend
pub times_lent : (s : ℕ) (rep : WireRep) (W : Outstanding) → times rep (lent_in s W) ≡ times rep (flat_map (loans_of s) W.waiting) + (times rep (flat_map (loans_of s) W.ready) + (times rep (flat_map (λ run. loans_of s run.message) W.running) + times rep (flat_map (loans_of s) W.replies)))
times_lent s rep W = times_both rep (flat_map (loans_of s) W.waiting) _
    ∙ ap (λ k. times rep (flat_map (loans_of s) W.waiting) + k) (times_both rep (flat_map (loans_of s) W.ready) _
    ∙ ap (λ k. times rep (flat_map (loans_of s) W.ready) + k) (times_both rep (flat_map (λ run. loans_of s run.message) W.running) (flat_map (loans_of s) W.replies)))

-- a Claim changes nothing that is lent
claim_lends : (s j : ℕ) (rep : WireRep) (W : Outstanding) (m : Message) → find (is_free W) W.ready ≡ Some m → times rep (lent_in s W) ≡ times rep (lent_in s (claimed j m W))
claim_lends s j rep W m found =
    let ready : times rep (flat_map (loans_of s) W.ready) ≡ times rep (loans_of s m) + times rep (flat_map (loans_of s) (without_first (is_free W) W.ready)) = times_without (loans_of s) (is_free W) rep W.ready m found in
    let running : times rep (loans_of s m ++ flat_map (λ run. loans_of s run.message) W.running) ≡ times rep (loans_of s m) + times rep (flat_map (λ run. loans_of s run.message) W.running) = times_both rep (loans_of s m) (flat_map (λ run. loans_of s run.message) W.running) in
    let before = times_lent s rep W in
    let after = times_lent s rep (claimed j m W) in
    omega (arith, ready, running, before, after)

module _ (s n : ℕ) (D : List Deed) (m : Message) (job : Job) (j : ℕ) (found : find (is_free (work s n D)) (work s n D).ready ≡ Some m) (is : IsOf j m job) where
  -- the outstanding work after a Claim is fixed
  claimed_fixed : AreFixed s n (Claim job ∷ D) (claimed job.job m (work s n D))
  unfolding message_after run_after copy_after
  claimed_fixed =
      let fixed : AreFixed s n D (work s n D) = work_fixed s n D in
      let its : message_after s n D m ≡ m = all_found (λ message. message_after s n D message ≡ message) (is_free (work s n D)) (work s n D).ready m found fixed.ready in
      record {
        waiting = fixed.waiting;
        ready = all_without (λ message. message_after s n D message ≡ message) (is_free (work s n D)) (work s n D).ready fixed.ready;
        running = (ap (λ (w : Message). record { job = job.job; message = w }) its, fixed.running);
        replies = fixed.replies;
      }

  -- the outstanding work after a Claim
  pub claim_work : work s n (Claim job ∷ D) ≡ claimed job.job m (work s n D)
  unfolding work_after after_claim
  claim_work =
      let W : Outstanding = work s n D in
      let first = claimed_first W m job found (found_passes (is_free W) W.ready m found) is.contents is.target in
      ap (λ w. with_loans s n (Claim job ∷ D) w) (ap (λ o. after_claim job o W) first.0 ∙ ap (λ ready. record { waiting = W.waiting; ready = ready; running = record { job = job.job; message = m } ∷ W.running; replies = W.replies; calls = W.calls }) first.1)
      ∙ fixed_stays s n (Claim job ∷ D) (claimed job.job m W) claimed_fixed

  -- after a Claim
  pub claim_stands : {limits : Limits} {st : State} → IsRightDeed s n limits (Claim job) D → Stands s n limits st D → Stands s n limits (with_work (claimed job.job m st.work) st.calls (st.jobs + 1) st) (Claim job ∷ D)
  unfolding gifts gifts_of
  claim_stands {limits} {st} its stands =
      let after : work s n (Claim job ∷ D) ≡ claimed job.job m (work s n D) = claim_work in
      record {
        ends = record { each = stands.ends.each; ends = stands.ends.ends };
        table = record {
          me = stands.table.me;
          exported = stands.table.exported;
          live = stands.table.live;
          far = stands.table.far;
          hands = stands.table.hands;
          loans = λ rep counted. stands.table.loans rep counted ∙ claim_lends s job.job rep (work s n D) m found ∙ ap (λ w. times rep (lent_in s w)) (sym after);
          passed = stands.table.passed;
          dirties = stands.table.dirties;
          places = stands.table.places;
          kept = stands.table.kept;
        };
        listed = stands.listed;
        pins = stands.pins;
        work = ap (claimed job.job m) stands.work ∙ sym after;
        awaited = stands.awaited;
        calls = stands.calls;
        jobs = ap (λ k. k + 1) stands.jobs;
        right = (its, stands.right);
      }

-- what is right for a Claim is what the state tells
pub claim_right : {s n : ℕ} {limits : Limits} {st : State} {D : List Deed} → Stands s n limits st D → right_claim (history_of s n D) ≡ claim_of st.jobs (find (is_free st.work) st.work.ready)
unfolding right_claim
claim_right {s} {n} {limits} {st} {D} stands = sym (λ i. claim_of (stands.jobs i) (find (is_free (stands.work i)) (stands.work i).ready))

module _ (st : State) where
  -- no ready job is free
  pub claim_none : find (is_free st.work) st.work.ready ≡ None → claim_of st.jobs (find (is_free st.work) st.work.ready) ≡ Err refusals.Nothing
  unfolding claim_of
  claim_none nothing = ap (claim_of st.jobs) nothing

  -- all numbers of jobs are used up
  pub claim_limit : (m : Message) → find (is_free st.work) st.work.ready ≡ Some m → last_number ≤ st.jobs → claim_of st.jobs (find (is_free st.work) st.work.ready) ≡ Err refusals.Limit
  unfolding claim_of
  claim_limit m found over =
      let full : nat_le last_number st.jobs ≡ true = grind (arith, nat_tests, over) in
      ap (claim_of st.jobs) found ∙ rw full refl

  -- the first free job is the answer, if it is one
  pub claim_job : (m : Message) → find (is_free st.work) st.work.ready ≡ Some m → st.jobs < last_number → claim_of st.jobs (find (is_free st.work) st.work.ready) ≡ job_of (st.jobs + 1) m.from m.item
  unfolding claim_of
  claim_job m found under =
      let room : nat_le last_number st.jobs ≡ false = grind (arith, nat_tests, under) in
      ap (claim_of st.jobs) found ∙ rw room refl

-- the outstanding work with these ready jobs and these that run
abbrev pub with_jobs : List Message → List Run → Outstanding → Outstanding
with_jobs ready running W = record { waiting = W.waiting; ready = ready; running = running; replies = W.replies; calls = W.calls }

-- after a Claim: the state that has taken the message out and has its run
pub claim_done : {s n : ℕ} {limits : Limits} {st : State} {D : List Deed} (stands : Stands s n limits st D) (m : Message) (job : Job) (ready : List Message) (running : List Run) → IsRightDeed s n limits (Claim job) D
    → find (is_free st.work) st.work.ready ≡ Some m → job_of (st.jobs + 1) m.from m.item ≡ Ok (answers.Job job)
    → ready ≡ without_first (is_free st.work) st.work.ready → running ≡ record { job = job.job; message = m } ∷ st.work.running
    → Stands s n limits (with_work (with_jobs ready running st.work) st.calls (st.jobs + 1) st) (Claim job ∷ D)
claim_done {s} {n} {limits} {st} {D} stands m job ready running its found is others runs =
    let here : find (is_free (work s n D)) (work s n D).ready ≡ Some m = subst (λ w. find (is_free w) w.ready ≡ Some m) stands.work found in
    let after : Stands s n limits (with_work (claimed job.job m st.work) st.calls (st.jobs + 1) st) (Claim job ∷ D) = claim_stands s n D m job (st.jobs + 1) here (job_is_of (st.jobs + 1) m job is) its stands in
    subst (λ ms. Stands s n limits (with_work (with_jobs ms running st.work) st.calls (st.jobs + 1) st) (Claim job ∷ D)) (sym others)
    (subst (λ rs. Stands s n limits (with_work (with_jobs (without_first (is_free st.work) st.work.ready) rs st.work) st.calls (st.jobs + 1) st) (Claim job ∷ D)) (sym runs) after)

-- an error is the right one, or a want of memory, of what is the same
pub wants_same : {A B : Type 0} (answer : A → Answer) (again : B → Answer) (one other : Result Answer Refusal) (error : SpaceError) → one ≡ other → AnswersOrWants answer (Err error) one → AnswersOrWants again (Err error) other
wants_same answer again one other (errors.Refused refusal) same is = sym same ∙ is
wants_same answer again one other errors.OutOfMemory same is = subst IsOk same is

-- a job that may be claimed is that of the message
pub claimed_is : (made : ℕ) (message : Message) (job : Job) → claim_of made (Some message) ≡ Ok (answers.Job job) → job_of (made + 1) message.from message.item ≡ Ok (answers.Job job)
unfolding claim_of
claimed_is made message job = elim (nat_le last_number made) as (λ b. (if b then Err refusals.Limit else job_of (made + 1) message.from message.item) ≡ Ok (answers.Job job) → job_of (made + 1) message.from message.item ≡ Ok (answers.Job job)) [ true ↦ λ e. absurd (cc) | false ↦ λ e. e ]

-- a job that may be claimed is that of a message that was found
pub claim_found : (made : ℕ) (found : Option Message) (job : Job) → claim_of made found ≡ Ok (answers.Job job) → (message : Message) × (found ≡ Some message)
unfolding claim_of
claim_found made None job is = absurd (let bad : Err refusals.Nothing ≡ Ok (answers.Job job) = is in cc)
claim_found made (Some message) job is = (message, refl)
