use Rattle.std.proofs.Common.{List, ◌++◌, Some, None, length}
use Rattle.nob_model_types.specs.declared.entry.WorldStep.{WorldStep}
use Rattle.test_worlds.specs.Scripts.{AreSteps}
use Rattle.test_worlds.proofs.growths.step_script.steps_of.Given as goal

-- the steps that the moves which are left are stand behind those that were copied
abbrev pub invariant-loop-next : goal.invariant-loop-next
invariant-loop-next l = ((rest : List WorldStep) → AreSteps l.left (Some rest) → AreSteps l.moves (Some (l.steps.items ++ rest))) × (AreSteps l.left None → AreSteps l.moves None)

-- each step leaves fewer moves
abbrev pub decreases-loop-next : goal.decreases-loop-next
decreases-loop-next l = length l.left
