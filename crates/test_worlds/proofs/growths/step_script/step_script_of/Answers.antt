use Rattle.std.proofs.Common.{List, Some, None, inr, subst}
use Rattle.std.specs.Global.{Vec}
use Rattle.std.proofs.lemmas.Option.{MatchOption-at_some, MatchOption-at_none}
use Rattle.nob_model_types.specs.declared.entry.WorldStep.{WorldStep}
use Rattle.nob_model_text.specs.Lines.{lines_of}
use Rattle.test_worlds.specs.declared.script.Move.{Move}
use Rattle.test_worlds.specs.declared.script.Script.{Script}
use Rattle.test_worlds.specs.Scripts.{AreSteps, SpellScript, SpellNoScript}
use Rattle.test_worlds.proofs.growths.step_script.step_script_of.Goals as goal

pub returns-in_default-2 : goal.returns-in_default-2
returns-in_default-2 c =
    let lines = lines_of c.args.text.now in
    let script = c.in-Some.script in
    let moves = c.as_slice.result.now in
    let spelt = MatchOption-at_some (SpellNoScript lines) (λ (script : Script). SpellScript lines script.n script.limits script.moves.items) script c.in-Some.is (c.in_ok-script.ensures {u = tt}) in
    let brings = MatchOption-at_none (AreSteps moves None) (λ (steps : Vec WorldStep). AreSteps moves (Some steps.items)) c.in_default-2.is (c.in_ok-steps.ensures {u = tt}) in
    inr (script.n, script.limits, script.moves.items, spelt, subst (λ (all : List Move). AreSteps all None) c.as_slice.ensures.value brings)
