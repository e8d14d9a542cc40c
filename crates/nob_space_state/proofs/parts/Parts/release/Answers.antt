use Rattle.std.proofs.Common.{sym, ap, ◌∙◌}
use Rattle.std.proofs.lemmas.Option.{none-some}
use Rattle.nob_model_types.specs.declared.answer.Answer.TheVariants as answers
use Rattle.nob_model_acting.specs.Sending.{unless}
use Rattle.nob_space_state.specs.Parts.{state_of}
use Rattle.nob_space_state.proofs.Shows.{shows_hand_fewer}
use Rattle.nob_space_state.proofs.Hands.{release_right, release_finds_hold, release_stands}
use Rattle.nob_space_state.proofs.Passing.{refused_on}
use Rattle.nob_space_state.proofs.Orderly.{release_is}
use Rattle.nob_space_state.proofs.parts.Parts.release.Goals as goal

pub returns-in_err-refuse_release-clause-answer : goal.returns-in_err-refuse_release-clause-answer
returns-in_err-refuse_release-clause-answer c limits D stands =
    refused_on _ c.from_residual.result _ c.in_err-refuse_release.field-0.0 c.from_residual.ensures.1
    (release_right stands c.args.rep.now ∙ ap (λ refusal. unless refusal answers.Done) c.in_err-refuse_release.ensures)

pub unreachable-requires : goal.unreachable-requires
unreachable-requires c = none-some _ (sym (release_finds_hold c.args.self.now.here.space (state_of c.args.self.now) c.args.rep.now c.in_ok-refuse_release.ensures) ∙ (c.in-Err.ensures {u = tt}).answer)

pub returns-clause-answer : goal.returns-clause-answer
returns-clause-answer c limits D stands = release_right stands c.args.rep.now ∙ ap (λ refusal. unless refusal answers.Done) c.in_ok-refuse_release.ensures

pub returns-clause-stands : goal.returns-clause-stands
returns-clause-stands c limits D stands =
    release_stands stands c.args.rep.now c.release.new.self (release_is c.args.self.now.here.space c.args.self.now.here.n limits D c.args.rep.now (returns-clause-answer c limits D stands))
    (shows_hand_fewer _ _ _ _ _ c.args.self.now.table c.release.new.self c.args.rep.now stands.table c.release.ensures.left (c.in-Ok.ensures {u = tt}).answer (c.in-Ok.ensures {u = tt}).released)
