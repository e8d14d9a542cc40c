use Rattle.std.proofs.Common.{◌≡◌, ◌++◌, [], Option, IfSome, codes, refl, subst}
use Rattle.std.proofs.lemmas.Result.{IfOk-weaker, on_err_weaker}
use Rattle.nob_ids.specs.declared.limits.Limits.{Limits}
use Rattle.nob_model_text.specs.Lines.{lines_of, bad_step_text}
use Rattle.nob_demo_scripts.specs.Grammar.{header_text, IsLimits}
use Rattle.nob_demo_scripts.specs.declared.pair_script.PairEnding.TheVariants.{OutOfMemory}
use Rattle.nob_demo_scripts.specs.PairScripts.{FromHeader, last_line}
use Rattle.nob_demo_scripts.proofs.Playing.{bad_ended, header_done, no_header}
use Rattle.nob_demo_scripts.proofs.pair_script.play_from.Goals as goal

pub returns-in_default-clause-ok : goal.returns-in_default-clause-ok
returns-in_default-clause-ok c =
    bad_ended c.bad_step.result c.args.text.now.items c.args.text.now.items c.bad_step.new.text.items 1 (λ w o. FromHeader c.args.header.now (lines_of c.args.steps.now) w o) c.bad_step.ensures.ok
    (bad_step_text 1, refl, FromHeader.bad (no_header c.args.header.now c.in_ok-limits.field-0 c.in_default.is c.in_ok-limits.ensures.only) refl refl)

pub returns-clause-ok : goal.returns-clause-ok
returns-clause-ok c =
    let limits = c.in-Some.limits in
    let is = subst (λ (r : Option Limits). IfSome r (λ l. IsLimits l.window l.retry × (c.args.header.now ≡ header_text l.window l.retry))) c.in-Some.is c.in_ok-limits.ensures.found in
    IfOk-weaker c.play_steps.result _ _ (λ o g. header_done limits c.args.header.now (lines_of c.args.steps.now) c.args.text.now.items c.push_line.new.text.items (c.play_steps.new.text.items ++ last_line o) o is.0 is.1 c.in_ok-push_line.ensures.ok g)
    (c.play_steps.ensures.ok limits [] c.in_ok-pair.ensures.stands)

pub returns-clause-err : goal.returns-clause-err
returns-clause-err c =
    let limits = c.in-Some.limits in
    let is = subst (λ (r : Option Limits). IfSome r (λ l. IsLimits l.window l.retry × (c.args.header.now ≡ header_text l.window l.retry))) c.in-Some.is c.in_ok-limits.ensures.found in
    on_err_weaker c.play_steps.result (header_done limits c.args.header.now (lines_of c.args.steps.now) c.args.text.now.items c.push_line.new.text.items (c.play_steps.new.text.items ++ codes "memory\n") OutOfMemory is.0 is.1 c.in_ok-push_line.ensures.ok)
    (c.play_steps.ensures.err limits [] c.in_ok-pair.ensures.stands)
