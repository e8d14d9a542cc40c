use Rattle.std.proofs.Common.{ℕ, List, true, ◌++◌, ◌∷◌, arith, ap, subst, codes}
use Rattle.nob_model_text.specs.Lines.{lines_of}
use Rattle.nob_script_text.specs.declared.ending.Ending.TheVariants.{OutOfMemory}
use Rattle.nob_script_text.specs.Scripts.{FromLines, Grows, last_line}
use Rattle.nob_script_text.proofs.Playing.{Completes, line_more, lines_done, run_stopped, grown}
use Rattle.nob_demo_scripts.specs.WorldScripts.{EndsBadly, script_world, IsSafelyYes}
use Rattle.nob_demo_scripts.proofs.WorldEnds.{line_ends}
use Rattle.nob_demo_scripts.proofs.world_script.play_steps.Goals as goal

pub returns-in_default-play_line-clause-plays : goal.returns-in_default-play_line-clause-plays
returns-in_default-play_line-clause-plays c =
    let line = c.in-Some.line.now in
    let left = lines_of c.in-Some.rest.now in
    let all = lines_of c.args.steps.now in
    let number = c.loop-line.number in
    let first = script_world c.args.world.now in
    let world = script_world c.loop-line.world in
    let old = c.args.text.now.items in
    let now = c.loop-line.text.items in
    let so_far = subst (λ (ls : List (List ℕ)). Completes true IsSafelyYes number ls all first world old now) c.in-Some.ensures.lines c.loop-line.invariant.1 in
    let new = c.play_line.new.text.items in
    let same = ap (λ (xs : List ℕ). xs ++ codes "memory\n") c.in_default-play_line.ensures.err in
    grown old (new ++ codes "memory\n") (now ++ codes "memory\n") (λ written. FromLines true IsSafelyYes 2 first all written OutOfMemory) same (run_stopped IsSafelyYes number (c.in-Some.line.now ∷ left) all first world old now so_far)

pub returns-then-not-is_step-clause-plays : goal.returns-then-not-is_step-clause-plays
returns-then-not-is_step-clause-plays c =
    let line = c.in-Some.line.now in
    let left = lines_of c.in-Some.rest.now in
    let all = lines_of c.args.steps.now in
    let number = c.loop-line.number in
    let first = script_world c.args.world.now in
    let world = script_world c.loop-line.world in
    let old = c.args.text.now.items in
    let now = c.loop-line.text.items in
    let so_far = subst (λ (ls : List (List ℕ)). Completes true IsSafelyYes number ls all first world old now) c.in-Some.ensures.lines c.loop-line.invariant.1 in
    let off = c.if-not-is_step.true in
    let ending = c.bad_step.result in
    let new = c.bad_step.new.text.items ++ last_line ending in
    let bad = subst (λ (text : List ℕ). Grows text new (λ written. EndsBadly number written ending)) (c.in-Ok.ensures.kept off) c.bad_step.ensures.bad in
    line_ends number line left all first world old now new ending so_far (c.in-Ok.ensures.none off) bad

pub loop-line-preserved : goal.loop-line-preserved
loop-line-preserved c =
    let line = c.in-Some.line.now in
    let left = lines_of c.in-Some.rest.now in
    let all = lines_of c.args.steps.now in
    let number = c.loop-line.number in
    let first = script_world c.args.world.now in
    let world = script_world c.loop-line.world in
    let old = c.args.text.now.items in
    let now = c.loop-line.text.items in
    let so_far = subst (λ (ls : List (List ℕ)). Completes true IsSafelyYes number ls all first world old now) c.in-Some.ensures.lines c.loop-line.invariant.1 in
    let made = c.in-Ok.ensures.made c.if-not-is_step.false in
    (omega (arith, c.loop-line.invariant.0, c.in-Some.ensures.shorter), line_more true IsSafelyYes number line left all first world (script_world c.play_line.new.world) old now c.play_line.new.text.items made.0 so_far made.2 made.1)

pub returns-clause-plays : goal.returns-clause-plays
returns-clause-plays c =
    let all = lines_of c.args.steps.now in
    let number = c.loop-line.number in
    let first = script_world c.args.world.now in
    let world = script_world c.loop-line.world in
    let old = c.args.text.now.items in
    let now = c.loop-line.text.items in
    let so_far = subst (λ (left : List ℕ). Completes true IsSafelyYes number (lines_of left) all first world old now) c.in_default.ensures.lines c.loop-line.invariant.1 in
    let ending = c.judge.result in
    lines_done true IsSafelyYes number all first world old now (c.judge.new.text.items ++ last_line ending) ending so_far c.judge.ensures.judged
