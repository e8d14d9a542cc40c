use Rattle.std.proofs.Common.{sym, ap, subst, ◌∙◌}
use Rattle.nob_model_types.specs.declared.answer.Answer.TheVariants as answers
use Rattle.nob_model_types.specs.declared.answer.Job.{Job}
use Rattle.nob_model.specs.Right.{job_of}
use Rattle.nob_space_state.specs.Parts.{state_of}
use Rattle.nob_space_state.specs.Stands.{AnswersOrWants}
use Rattle.nob_space_state.proofs.Claiming.{claim_none, claim_limit, claim_job}
use Rattle.nob_space_state.proofs.Passing.{after_any}
use Rattle.nob_space_state.proofs.parts.Parts.next_job.Goals as goal

pub returns-in_default-clause-answer : goal.returns-in_default-clause-answer
returns-in_default-clause-answer c = claim_none (state_of c.args.self.now) (sym (c.in_default.ensures {u = tt}))

pub returns-then-self-ge-LAST_NUMBER-clause-answer : goal.returns-then-self-ge-LAST_NUMBER-clause-answer
returns-then-self-ge-LAST_NUMBER-clause-answer c = claim_limit (state_of c.args.self.now) c.in-Some.message.now (sym (c.in-Some.ensures {u = tt})) c.if-self-ge-LAST_NUMBER.true

pub returns-clause-low : goal.returns-clause-low
returns-clause-low c = after_any c.job_of.result c.if-self-ge-LAST_NUMBER.false

pub returns-clause-answer : goal.returns-clause-answer
returns-clause-answer c =
    subst (AnswersOrWants (λ (job : Job). answers.Job job) c.job_of.result)
    (sym (claim_job (state_of c.args.self.now) c.in-Some.message.now (sym (c.in-Some.ensures {u = tt})) c.if-self-ge-LAST_NUMBER.false
    ∙ ap (λ j. job_of j c.in-Some.message.now.from c.in-Some.message.now.item) (sym c.new-number.ensures)))
    c.job_of.ensures
