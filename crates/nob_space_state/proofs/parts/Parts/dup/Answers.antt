use Rattle.std.proofs.Common.{sym, ap, ◌∙◌}
use Rattle.std.proofs.lemmas.Option.{none-some}
use Rattle.nob_model_types.specs.declared.answer.Answer.TheVariants as answers
use Rattle.nob_model_acting.specs.Sending.{unless}
use Rattle.nob_space_state.specs.Parts.{state_of}
use Rattle.nob_space_state.proofs.Shows.{shows_hand_more}
use Rattle.nob_space_state.proofs.Hands.{dup_right, dup_finds_room, dup_stands}
use Rattle.nob_space_state.proofs.Passing.{refused_on}
use Rattle.nob_space_state.proofs.Orderly.{dup_is}
use Rattle.nob_space_state.proofs.parts.Parts.dup.Goals as goal

pub returns-in_err-refuse_dup-clause-answer : goal.returns-in_err-refuse_dup-clause-answer
returns-in_err-refuse_dup-clause-answer c limits D stands =
    refused_on _ c.from_residual.result _ c.in_err-refuse_dup.field-0.0 c.from_residual.ensures.1
    (dup_right stands c.args.rep.now ∙ ap (λ refusal. unless refusal answers.Done) c.in_err-refuse_dup.ensures)

pub unreachable-requires : goal.unreachable-requires
unreachable-requires c = none-some _ (sym (dup_finds_room c.args.self.now.here.space (state_of c.args.self.now) c.args.rep.now c.in_ok-refuse_dup.ensures) ∙ (c.in-Err.ensures {u = tt}).answer)

pub returns-clause-answer : goal.returns-clause-answer
returns-clause-answer c limits D stands = dup_right stands c.args.rep.now ∙ ap (λ refusal. unless refusal answers.Done) c.in_ok-refuse_dup.ensures

pub returns-clause-stands : goal.returns-clause-stands
returns-clause-stands c limits D stands =
    dup_stands stands c.args.rep.now c.hold.new.self (dup_is c.args.self.now.here.space c.args.self.now.here.n limits D c.args.rep.now (returns-clause-answer c limits D stands))
    (shows_hand_more _ _ _ _ _ c.args.self.now.table c.hold.new.self c.args.rep.now stands.table c.hold.ensures.left (c.in-Ok.ensures {u = tt}).answer (c.in-Ok.ensures {u = tt}).held)
