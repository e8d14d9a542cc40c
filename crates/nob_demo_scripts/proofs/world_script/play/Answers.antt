use Rattle.std.proofs.Common.{true, ◌++◌}
use Rattle.nob_model_text.specs.Lines.{lines_of}
use Rattle.nob_script_text.specs.Scripts.{last_line}
use Rattle.nob_script_text.proofs.Playing.{script_done}
use Rattle.nob_demo_scripts.specs.WorldScripts.{IsSafelyYes}
use Rattle.nob_demo_scripts.proofs.world_script.play.Goals as goal

pub returns-clause-plays : goal.returns-clause-plays
returns-clause-plays c =
    let ending = c.play_from.result in
    script_done true IsSafelyYes (lines_of c.args.script.now) (lines_of c.in-Some.steps.now) c.in-Some.line.now c.args.text.now.items (c.play_from.new.text.items ++ last_line ending) ending c.in-Some.ensures.lines c.requires c.play_from.ensures.plays
