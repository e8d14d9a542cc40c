use Rattle.std.proofs.Common.{false}
use Rattle.nob_model_text.specs.Lines.{lines_of}
use Rattle.nob_script_text.specs.Scripts.{IsVerdictOf}
use Rattle.nob_script_text.proofs.Playing.{script_done}
use Rattle.test_definitions.proofs.script.answers_of.Goals as goal

pub returns : goal.returns
returns c =
    let put = c.in_ok-put_answers.ensures in
    (put.0, script_done false IsVerdictOf (lines_of c.args.input.now) (lines_of c.in-Some.steps.now) c.in-Some.line.now _ c.put_answers.new.text.items put.0 c.in-Some.ensures.lines c.new-text.ensures.items put.1)
