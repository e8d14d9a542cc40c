use Rattle.std.proofs.Common.{◌≡◌, ℕ, true, List, length, reverse, sym, ap, subst, ◌∙◌}
use Rattle.nob_model_types.specs.declared.entry.Entry.{Entry}
use Rattle.nob_model_journal.specs.Runs.{WorldRun}
use Rattle.nob_model_text.specs.Lines.{answered_text}
use Rattle.nob_script_text.specs.Scripts.{StepMade}
use Rattle.nob_demo_scripts.specs.WorldScripts.{script_world, step_result_text}
use Rattle.nob_demo_scripts.proofs.WorldSteps.{step_made, line_written}
use Rattle.nob_demo_scripts.proofs.world_step.make_step.Goals as goal

pub returns-clause-made : goal.returns-clause-made
returns-clause-made c =
    let w = c.args.world.now in
    let v = c.step-outcome.new.self in
    let line = c.args.line.now in
    let r = c.step-outcome.result in
    let step = c.step-outcome.ensures in
    let answer = c.as_bytes.result.now in
    let count : length c.frames-before.result.now ≡ length w.frames = ap length c.frames-before.ensures.frames in
    let told : answer ≡ step_result_text (length w.frames) r = c.as_bytes.ensures.value ∙ c.in_ok-answer.ensures ∙ ap (λ (n : ℕ). step_result_text n r) count in
    let run = subst (λ (entries : List Entry). WorldRun v.n (λ _. v.limits) (reverse entries)) c.entries.ensures.entries c.entries.ensures.run in
    let before = sym c.frames-before.ensures.frames ∙ c.frames-before.ensures.transmitted_frames in
    let after = sym c.frames.ensures.frames ∙ c.frames.ensures.transmitted_frames in
    let made = step_made w v line (answered_text line answer) c.args.step.now r c.requires step.adds step.fault step.only step.err step.err_frames step.n step.limits run before after (ap (answered_text line) told) in
    line_written c.push_line.result c.args.text.now.items c.push_line.new.text.items line answer (StepMade true (script_world w) line (script_world v)) c.push_line.ensures.ok made
