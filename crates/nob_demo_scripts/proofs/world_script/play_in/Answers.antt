use Rattle.std.proofs.Common.{true, ◌++◌}
use Rattle.nob_model_text.specs.Lines.{lines_of}
use Rattle.nob_script_text.specs.Scripts.{last_line}
use Rattle.nob_script_text.proofs.Playing.{opening_done}
use Rattle.nob_demo_scripts.specs.WorldScripts.{script_world, IsSafelyYes}
use Rattle.nob_demo_scripts.proofs.world_script.play_in.Goals as goal

pub returns-clause-plays : goal.returns-clause-plays
returns-clause-plays c = λ opening limits is are empty.
    let ending = c.play_steps.result in
    opening_done true IsSafelyYes c.args.line.now (lines_of c.args.steps.now) opening limits (script_world c.args.world.now) c.args.text.now.items c.push_line.new.text.items (c.play_steps.new.text.items ++ last_line ending) ending is are empty c.in-Ok.ensures.ok c.play_steps.ensures.plays
