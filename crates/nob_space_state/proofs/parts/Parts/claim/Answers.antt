use Rattle.std.proofs.Common.{◌≡◌, ◌+◌, List, ◌∷◌, Ok, IsOk, IsSome, find, refl, sym, ap, subst, ◌∙◌}
use Rattle.nob_model_types.specs.declared.answer.Answer.TheVariants as answers
use Rattle.nob_model_types.specs.declared.answer.Job.{Job}
use Rattle.nob_model_work.specs.Work.{without_first}
use Rattle.nob_model.specs.Right.{claim_of, job_of}
use Rattle.nob_model_work.specs.declared.work.Run.{Run}
use Rattle.nob_model_types.specs.declared.deed.Deed.TheVariants as did
use Rattle.nob_space_messages.specs.Jobs.{is_free_of, IsAbove}
use Rattle.nob_space_messages.specs.Waiting.{WaitingList}
use Rattle.nob_space_state.specs.Stands.{Stands}
use Rattle.nob_space_state.proofs.Claiming.{claim_right, claim_done, claim_found, claimed_is, job_is_of}
use Rattle.nob_space_state.proofs.Numbered.{jobs_below}
use Rattle.nob_space_state.proofs.Passing.{error_on, wants_as}
use Rattle.nob_space_state.proofs.Orderly.{claim_is}
use Rattle.nob_space_state.proofs.parts.Parts.claim.Goals as goal

pub returns-in_err-job-clause-answer : goal.returns-in_err-job-clause-answer
returns-in_err-job-clause-answer c limits D stands =
    error_on (λ (job : Job). answers.Job job) (λ (job : Job). answers.Job job) c.from_residual.result _ _ c.in_err-job.field-0.0 c.from_residual.ensures.1
    (sym (claim_right stands)) c.in_err-job.ensures.answer

pub returns-in_err-reserve_running-clause-answer : goal.returns-in_err-reserve_running-clause-answer
returns-in_err-reserve_running-clause-answer c limits D stands =
    wants_as _ c.from_residual-in_err-reserve_running.result _ c.from_residual-in_err-reserve_running.ensures.1 (subst IsOk (sym (claim_right stands ∙ c.in_ok-job.ensures.answer)) refl)

pub claim-requires-clause-free : goal.claim-requires-clause-free
claim-requires-clause-free c =
    let there = claim_found c.args.self.now.jobs_made (find (is_free_of c.args.self.now.messages.jobs.running) c.args.self.now.messages.jobs.ready) c.in_ok-job.job c.in_ok-job.ensures.answer in
    subst IsSome (sym ((λ i. find (is_free_of (c.reserve_running.ensures.running i)) (c.reserve_running.ensures.ready i)) ∙ there.1)) refl

pub returns-clause-answer : goal.returns-clause-answer
returns-clause-answer c limits D stands = claim_right stands ∙ c.in_ok-job.ensures.answer

pub returns-clause-stands : goal.returns-clause-stands
returns-clause-stands c limits D stands =
    let there = claim_found c.args.self.now.jobs_made (find (is_free_of c.args.self.now.messages.jobs.running) c.args.self.now.messages.jobs.ready) c.in_ok-job.job c.in_ok-job.ensures.answer in
    let is : job_of (c.args.self.now.jobs_made + 1) there.0.from there.0.item ≡ Ok (answers.Job c.in_ok-job.job) =
    claimed_is c.args.self.now.jobs_made there.0 c.in_ok-job.job (ap (claim_of c.args.self.now.jobs_made) (sym there.1) ∙ c.in_ok-job.ensures.answer) in
    subst (λ (w : WaitingList). Stands c.args.self.now.here.space c.args.self.now.here.n limits (record {
      sessions = c.args.self.now.sessions.items;
      table = c.args.self.now.table;
      dirty = c.args.self.now.dirty;
      pins = c.args.self.now.pins;
      work = record { waiting = w.items; ready = c.claim.new.self.jobs.ready; running = c.claim.new.self.jobs.running; replies = c.args.self.now.calls.replies; calls = c.args.self.now.calls.calls };
      awaited = w.awaited;
      calls = c.args.self.now.calls_made;
      jobs = c.args.self.now.jobs_made + 1;
    }) (did.Claim c.in_ok-job.job ∷ D)) (sym (c.claim.ensures.waiting ∙ c.reserve_running.ensures.waiting))
    (claim_done stands there.0 c.in_ok-job.job c.claim.new.self.jobs.ready c.claim.new.self.jobs.running (claim_is c.args.self.now.here.space c.args.self.now.here.n limits D c.in_ok-job.job (returns-clause-answer c limits D stands)) there.1 is
    (c.claim.ensures.ready ∙ (λ i. without_first (is_free_of (c.reserve_running.ensures.running i)) (c.reserve_running.ensures.ready i)))
    (c.claim.ensures.running there.0 ((λ i. find (is_free_of (c.reserve_running.ensures.running i)) (c.reserve_running.ensures.ready i)) ∙ there.1) ∙ ap (λ runs. record { job = c.in_ok-job.job.job; message = there.0 } ∷ runs) c.reserve_running.ensures.running))

pub claim-requires-clause-above : goal.claim-requires-clause-above
claim-requires-clause-above c =
    let made = c.args.self.now.jobs_made in
    let there = claim_found made (find (is_free_of c.args.self.now.messages.jobs.running) c.args.self.now.messages.jobs.ready) c.in_ok-job.job c.in_ok-job.ensures.answer in
    let is : job_of (made + 1) there.0.from there.0.item ≡ Ok (answers.Job c.in_ok-job.job) = claimed_is made there.0 c.in_ok-job.job (ap (claim_of made) (sym there.1) ∙ c.in_ok-job.ensures.answer) in
    subst (λ (runs : List Run). IsAbove runs c.in_ok-job.job.job) (sym c.reserve_running.ensures.running) (jobs_below c.requires.2 c.in_ok-job.job.job (job_is_of (made + 1) there.0 c.in_ok-job.job is).number)
