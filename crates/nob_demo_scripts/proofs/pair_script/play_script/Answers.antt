use Rattle.std.proofs.Common.{◌++◌, codes}
use Rattle.std.proofs.lemmas.Result.{IfOk-weaker, on_err_weaker}
use Rattle.nob_model_text.specs.Lines.{lines_of}
use Rattle.nob_demo_scripts.specs.declared.pair_script.PairEnding.TheVariants.{OutOfMemory}
use Rattle.nob_demo_scripts.specs.PairScripts.{last_line}
use Rattle.nob_demo_scripts.proofs.Playing.{script_done}
use Rattle.nob_demo_scripts.proofs.pair_script.play_script.Goals as goal

pub returns-clause-ok : goal.returns-clause-ok
returns-clause-ok c =
    IfOk-weaker c.play_from.result _ _ (λ o g. script_done c.args.script.now c.in-Some.header.now (lines_of c.in-Some.steps.now) c.args.text.now.items (c.play_from.new.text.items ++ last_line o) o c.in-Some.ensures.lines c.requires g) c.play_from.ensures.ok

pub returns-clause-err : goal.returns-clause-err
returns-clause-err c =
    on_err_weaker c.play_from.result (script_done c.args.script.now c.in-Some.header.now (lines_of c.in-Some.steps.now) c.args.text.now.items (c.play_from.new.text.items ++ codes "memory\n") OutOfMemory c.in-Some.ensures.lines c.requires) c.play_from.ensures.err
