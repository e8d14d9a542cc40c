use Rattle.std.proofs.Common.{List, [], ◌++◌, Some, refl, subst}
use Rattle.std.proofs.lemmas.List.{append-nil, nil_from_length}
use Rattle.nob_model_types.specs.declared.entry.WorldStep.{WorldStep}
use Rattle.test_worlds.specs.declared.script.Move.{Move}
use Rattle.test_worlds.specs.Scripts.{AreSteps}
use Rattle.test_worlds.proofs.growths.step_script.steps_of.Goals as goal

pub returns : goal.returns
returns c =
    let all = c.args.moves.now in
    let steps = c.loop-next.steps.items in
    let copied = subst (λ (left : List Move). (rest : List WorldStep) → AreSteps left (Some rest) → AreSteps all (Some (steps ++ rest))) (nil_from_length c.loop-next.left.now c.in_default.ensures.cases) c.loop-next.invariant.0 in
    subst (λ (xs : List WorldStep). AreSteps all (Some xs)) (append-nil steps) (copied [] refl)
