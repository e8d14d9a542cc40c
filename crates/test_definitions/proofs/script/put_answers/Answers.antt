use Rattle.std.proofs.Common.{false, refl}
use Rattle.nob_model_text.specs.Lines.{lines_of, bad_step_text}
use Rattle.nob_script_text.specs.Scripts.{FromOpening, IsVerdictOf}
use Rattle.nob_script_text.proofs.Playing.{bad_made, no_opening, opening_done}
use Rattle.test_definitions.proofs.Playing.{found_so, on_ok_so}
use Rattle.test_definitions.proofs.script.put_answers.Goals as goal

pub returns-in_default : goal.returns-in_default
returns-in_default c =
    let line = c.args.line.now in
    let lines = lines_of c.args.steps.now in
    let none = no_opening line c.in_ok-opening.field-0 c.in_default.is c.in_ok-opening.ensures.only in
    bad_made c.push_bad_step.result c.args.text.now.items c.args.text.now.items c.push_bad_step.new.text.items 1 (λ written ending. FromOpening false IsVerdictOf line lines written ending) c.push_bad_step.ensures.ok (bad_step_text 1, refl, FromOpening.bad none refl refl)

pub returns : goal.returns
returns c =
    let line = c.args.line.now in
    let lines = lines_of c.args.steps.now in
    let old = c.args.text.now.items in
    let begun = c.push_line.new.text.items in
    let new = c.put_steps.new.text.items in
    let opening = c.in-Some.opening in
    let found = found_so _ c.in_ok-opening.field-0 opening c.in-Some.is c.in_ok-opening.ensures.found in
    on_ok_so c.put_steps.result (λ written. (written.0, opening_done false IsVerdictOf line lines opening c.limits_of.result c.new-world.result old begun new written.0 found c.limits_of.ensures c.new-world.ensures c.in_ok-push_line.ensures.ok written.1)) c.put_steps.ensures
