use Rattle.std.proofs.Common.{◌≡◌, ◌++◌, ◌∙◌, ap, refl, sym, subst, codes}
use Rattle.std.proofs.lemmas.Result.{on_ok_weaker}
use Rattle.nob_demo_scripts.specs.Run.{entries_of, step_answer}
use Rattle.nob_demo_scripts.specs.Pairs.{Ends, PairStands}
use Rattle.nob_model_text.specs.Lines.{answered_text}
use Rattle.nob_demo_scripts.specs.PairScripts.{StepMade}
use Rattle.nob_demo_scripts.proofs.pair_script.make_step.Goals as goal

pub returns-in_ok-answer-in-Ok-clause-made : goal.returns-in_ok-answer-in-Ok-clause-made
returns-in_ok-answer-in-Ok-clause-made c limits J st =
    let made = c.in-Ok.ensures.answer limits J st in
    let bytes : c.as_bytes.result.now ≡ step_answer limits c.args.step J = c.as_bytes.ensures.value ∙ c.in_ok-answer-in-Ok.ensures ∙ made.0 in
    on_ok_weaker c.push_line.result (λ e. (entries_of limits c.args.step J ++ J, made.1, (answered_text c.args.line.now c.as_bytes.result.now, e, StepMade.answered c.args.step c.requires (ap (answered_text c.args.line.now) bytes) refl made.1.run))) c.push_line.ensures.ok

pub returns-in-Err-clause-made : goal.returns-in-Err-clause-made
returns-in-Err-clause-made c limits J st =
    on_ok_weaker c.push_line-in-Err.result (λ e. (J, subst (λ (ends : Ends). PairStands limits ends J) (sym c.in-Err.ensures.err) st, (answered_text c.args.line.now (codes "memory"), e, StepMade.refused c.args.step c.requires (c.in-Err.ensures.memory limits J st) refl refl))) c.push_line-in-Err.ensures.ok
