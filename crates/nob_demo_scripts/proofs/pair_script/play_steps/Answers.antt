use Rattle.std.proofs.Common.{◌≡◌, ◌++◌, [], ℕ, List, ◌∙◌, ap, subst, codes, arith, IfOk, OnErr}
use Rattle.std.proofs.lemmas.List.{append-nil}
use Rattle.nob_model_text.specs.Lines.{lines_of, bad_step_text}
use Rattle.nob_demo_scripts.specs.declared.pair_script.PairEnding.TheVariants.{BadStep}
use Rattle.nob_demo_scripts.specs.PairScripts.{FromLines}
use Rattle.nob_demo_scripts.proofs.Playing.{Completes, line_more, lines_done, line_bad, run_stopped, grown, on_err, bad_ended, memory_ended}
use Rattle.nob_demo_scripts.proofs.pair_script.play_steps.Goals as goal

pub returns-in_err-play_line-clause-err : goal.returns-in_err-play_line-clause-err
returns-in_err-play_line-clause-err c limits J st =
    let h = c.loop-line.invariant.run limits J st in
    on_err c.from_residual.result (grown _ _ _ _ (ap (λ (xs : List ℕ). xs ++ codes "memory\n") c.in_err-play_line.ensures.err) (run_stopped limits c.loop-line.number (lines_of c.loop-line.left.now) (lines_of c.args.steps.now) J h.0 c.args.text.now.items c.loop-line.text.items h.2))

pub returns-then-not-branch-clause-ok : goal.returns-then-not-branch-clause-ok
returns-then-not-branch-clause-ok c limits J st =
    let h = c.loop-line.invariant.run limits J st in
    let none = c.in_ok-play_line.ensures.none c.if-not-branch.true in
    let all = lines_of c.args.steps.now in
    let number = c.loop-line.number in
    let before = subst (λ (xs : List (List ℕ)). Completes limits number xs all J h.0 c.args.text.now.items c.loop-line.text.items) c.in-Some.ensures.lines h.2 in
    bad_ended c.bad_step.result c.args.text.now.items c.loop-line.text.items c.bad_step.new.text.items number (λ w o. FromLines limits 2 all J w o)
    (subst (λ (xs : List ℕ). IfOk c.bad_step.result (λ o. (o ≡ BadStep) × (c.bad_step.new.text.items ≡ xs ++ bad_step_text number))) none.1 c.bad_step.ensures.ok)
    (line_bad limits number _ (lines_of c.in-Some.rest.now) all J h.0 c.args.text.now.items c.loop-line.text.items before none.0)

pub returns-then-not-branch-clause-err : goal.returns-then-not-branch-clause-err
returns-then-not-branch-clause-err c limits J st =
    let h = c.loop-line.invariant.run limits J st in
    let none = c.in_ok-play_line.ensures.none c.if-not-branch.true in
    memory_ended c.bad_step.result c.args.text.now.items c.loop-line.text.items c.bad_step.new.text.items _
    (subst (λ (xs : List ℕ). OnErr c.bad_step.result (c.bad_step.new.text.items ≡ xs)) none.1 c.bad_step.ensures.err)
    (run_stopped limits c.loop-line.number (lines_of c.loop-line.left.now) (lines_of c.args.steps.now) J h.0 c.args.text.now.items c.loop-line.text.items h.2)

pub loop-line-preserved : goal.loop-line-preserved
loop-line-preserved c = record {
  few = omega (arith, c.loop-line.invariant.few, c.in-Some.ensures.shorter);
  run = λ limits J st.
      let h = c.loop-line.invariant.run limits J st in
      let made = c.in_ok-play_line.ensures.made limits h.0 h.1 c.if-not-branch.false in
      let all = lines_of c.args.steps.now in
      let number = c.loop-line.number in
      let left : List (List ℕ) = lines_of c.in-Some.rest.now in
      let before = subst (λ (xs : List (List ℕ)). Completes limits number xs all J h.0 c.args.text.now.items c.loop-line.text.items) c.in-Some.ensures.lines h.2 in (
        made.0,
        made.1,
        line_more limits number _ left all J h.0 made.0 c.args.text.now.items c.loop-line.text.items c.play_line.new.text.items made.2.0 before made.2.2 made.2.1,
      );
}

pub returns-in_err-extend_from_slice-clause-err : goal.returns-in_err-extend_from_slice-clause-err
returns-in_err-extend_from_slice-clause-err c limits J st =
    let h = c.loop-line.invariant.run limits J st in
    on_err c.from_residual-in_err-extend_from_slice.result (grown _ _ _ _ (ap (λ (xs : List ℕ). xs ++ codes "memory\n") c.in_err-extend_from_slice.ensures.items) (run_stopped limits c.loop-line.number (lines_of c.loop-line.left.now) (lines_of c.args.steps.now) J h.0 c.args.text.now.items c.loop-line.text.items h.2))

pub returns-clause-ok : goal.returns-clause-ok
returns-clause-ok c limits J st =
    let h = c.loop-line.invariant.run limits J st in
    let all = lines_of c.args.steps.now in
    let none : c.loop-line.left.now ≡ [] = c.in_default.ensures.lines in
    let before = subst (λ (left : List ℕ). Completes limits c.loop-line.number (lines_of left) all J h.0 c.args.text.now.items c.loop-line.text.items) none h.2 in
    grown _ _ _ _ (append-nil _ ∙ c.in_ok-extend_from_slice.ensures.items) (lines_done limits c.loop-line.number all J h.0 c.args.text.now.items c.loop-line.text.items before (c.pair.ensures 1 2 limits limits h.0 h.1.run))
