use Rattle.std.proofs.Common.{sym, subst}
use Rattle.nob_model_types.specs.declared.answer.Answer.TheVariants as answers
use Rattle.nob_model_types.specs.declared.answer.Job.{Job}
use Rattle.nob_space_state.specs.Stands.{AnswersOrWants}
use Rattle.nob_space_state.proofs.Claiming.{claim_right}
use Rattle.nob_space_state.proofs.parts.Parts.job_to_claim.Goals as goal

pub returns : goal.returns
returns c limits D stands = subst (AnswersOrWants (λ (job : Job). answers.Job job) c.next_job.result) (sym (claim_right stands)) c.next_job.ensures.answer
