use Rattle.std.proofs.Common.{ℕ, List, false, arith, ap, refl, subst, ◌∙◌}
use Rattle.nob_model_text.specs.Lines.{lines_of, answered_text}
use Rattle.nob_script_text.specs.declared.ending.Ending.TheVariants.{Judged}
use Rattle.nob_script_text.specs.Scripts.{AtEnd, FromLines, StepMade, IsVerdictOf}
use Rattle.nob_script_text.proofs.Playing.{Completes, begun, line_more, lines_done, line_bad, no_step, bad_made}
use Rattle.test_definitions.proofs.Playing.{found_so}
use Rattle.test_definitions.proofs.script.put_steps.Goals as goal

pub loop-line-init : goal.loop-line-init
loop-line-init c = (omega arith, begun false IsVerdictOf (lines_of c.args.steps.now) c.args.world.now c.args.text.now.items)

pub loop-line-preserved : goal.loop-line-preserved
loop-line-preserved c =
    let line = c.in-Some.line.now in
    let left = lines_of c.in-Some.rest.now in
    let all = lines_of c.args.steps.now in
    let number = c.loop-line.number in
    let first = c.args.world.now in
    let world = c.loop-line.world in
    let old = c.args.text.now.items in
    let now = c.loop-line.text.items in
    let so_far = subst (λ (ls : List (List ℕ)). Completes false IsVerdictOf number ls all first world old now) c.in-Some.ensures.lines c.loop-line.invariant.1 in
    let found = found_so _ c.in_ok-step.field-0 c.in-Some-2.step c.in-Some-2.is c.in_ok-step.ensures.found in
    let bytes = c.as_bytes.ensures.value in
    let made : StepMade false world line c.step.new.self (answered_text line c.as_bytes.result.now) = StepMade.answered c.in-Some-2.step found (ap (answered_text line) (bytes ∙ ap (λ o. o.0) c.in_ok-answer.ensures)) (ap (λ o. o.1) c.in_ok-answer.ensures) in
    (omega (arith, c.loop-line.invariant.0, c.in-Some.ensures.shorter), line_more false IsVerdictOf number line left all first world c.step.new.self old now c.push_line.new.text.items (answered_text line c.as_bytes.result.now) so_far made c.in_ok-push_line.ensures.ok)

pub returns : goal.returns
returns c =
    let all = lines_of c.args.steps.now in
    let old = c.args.text.now.items in
    let now = c.loop-line.text.items in
    let first = c.args.world.now in
    let world = c.loop-line.world in
    let so_far = subst (λ (left : List ℕ). Completes false IsVerdictOf c.loop-line.number (lines_of left) all first world old now) c.in_default.ensures.lines c.loop-line.invariant.1 in
    let verdict = c.in_ok-verdict.verdict in
    (Judged verdict, lines_done false IsVerdictOf c.loop-line.number all first world old now c.extend_from_slice.new.self.items (Judged verdict) so_far (c.verdict_line.result.now, c.in_ok-extend_from_slice.ensures.items, AtEnd.judged verdict c.in_ok-verdict.ensures c.verdict_line.ensures refl))

pub returns-in_default-2 : goal.returns-in_default-2
returns-in_default-2 c =
    let line = c.in-Some.line.now in
    let left = lines_of c.in-Some.rest.now in
    let all = lines_of c.args.steps.now in
    let number = c.loop-line.number in
    let first = c.args.world.now in
    let world = c.loop-line.world in
    let old = c.args.text.now.items in
    let now = c.loop-line.text.items in
    let so_far = subst (λ (ls : List (List ℕ)). Completes false IsVerdictOf number ls all first world old now) c.in-Some.ensures.lines c.loop-line.invariant.1 in
    let none = no_step line c.in_ok-step.field-0 c.in_default-2.is c.in_ok-step.ensures.only in
    bad_made c.push_bad_step.result old now c.push_bad_step.new.text.items number (λ written ending. FromLines false IsVerdictOf 2 first all written ending) c.push_bad_step.ensures.ok (line_bad false IsVerdictOf number line left all first world old now so_far none)
