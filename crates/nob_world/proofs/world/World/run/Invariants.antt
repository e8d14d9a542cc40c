use Rattle.std.proofs.Common.{◌≡◌, ◌++◌, List, reverse, take}
use Rattle.nob_model_types.specs.declared.entry.WorldStep.{WorldStep}
use Rattle.nob_model_journal.specs.Runs.{From}
use Rattle.nob_world.specs.Worlds.{journal, IsSafe}
use Rattle.nob_world.proofs.world.World.run.Given as goal

abbrev pub invariant-loop-place : goal.invariant-loop-place
invariant-loop-place l = record {
  from : (before : List WorldStep) → From before (journal l.fn.self) → From (reverse (take l.place l.steps) ++ before) (journal l.self);
  safe : IsSafe l.self.n (journal l.self);
  n : l.self.n ≡ l.fn.self.n;
  limits : l.self.limits ≡ l.fn.self.limits;
}
