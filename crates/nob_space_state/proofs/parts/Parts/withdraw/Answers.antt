use Rattle.std.proofs.Common.{false, sym, ap, subst, ◌∙◌}
use Rattle.std.proofs.lemmas.Option.{none-some}
use Rattle.nob_table.specs.Table.{Becomes, SetsKept}
use Rattle.nob_table_rows.specs.Standings.{withdrawn}
use Rattle.nob_model_types.specs.declared.answer.Answer.TheVariants as answers
use Rattle.nob_model_acting.specs.Sending.{unless}
use Rattle.nob_space_state.proofs.Exported.{withdraw_right, withdraw_free, withdraw_stands}
use Rattle.nob_space_state.proofs.Passing.{refused_on}
use Rattle.nob_space_state.proofs.Orderly.{withdraw_is}
use Rattle.nob_space_state.proofs.parts.Parts.withdraw.Goals as goal

pub returns-in_err-refuse_withdraw-clause-answer : goal.returns-in_err-refuse_withdraw-clause-answer
returns-in_err-refuse_withdraw-clause-answer c limits D stands =
    refused_on _ c.from_residual.result _ c.in_err-refuse_withdraw.field-0.0 c.from_residual.ensures.1
    (withdraw_right stands c.args.index ∙ ap (λ refusal. unless refusal answers.Withdrawn) c.in_err-refuse_withdraw.ensures)

pub unreachable-requires : goal.unreachable-requires
unreachable-requires c = none-some _ (sym (withdraw_free c.requires.2 c.args.index c.in_ok-refuse_withdraw.ensures) ∙ (c.in-Err.ensures {u = tt}).answer)

pub returns-clause-answer : goal.returns-clause-answer
returns-clause-answer c limits D stands = withdraw_right stands c.args.index ∙ ap (λ refusal. unless refusal answers.Withdrawn) c.in_ok-refuse_withdraw.ensures

pub returns-clause-stands : goal.returns-clause-stands
returns-clause-stands c limits D stands =
    withdraw_stands stands c.withdraw.new.self c.args.index (withdraw_is c.args.self.now.here.space c.args.self.now.here.n limits D c.args.index (returns-clause-answer c limits D stands)) (c.in-Ok.ensures {u = tt}).left
    (subst (λ me. SetsKept c.args.self.now.table c.withdraw.new.self (record { owner = me; index = c.args.index }) false) stands.table.me (c.in-Ok.ensures {u = tt}).unkept)
    (subst (λ me. Becomes c.args.self.now.table c.withdraw.new.self (record { owner = me; index = c.args.index }) withdrawn) stands.table.me (c.in-Ok.ensures {u = tt}).withdrawn)
    c.in_ok-refuse_withdraw.ensures
