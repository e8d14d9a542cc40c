use Rattle.std.proofs.Common.{◌≡◌, ◌++◌, List, reverse}
use Rattle.nob_model_types.specs.declared.entry.WorldStep.{WorldStep}
use Rattle.test_worlds.specs.Makings.{Makes}
use Rattle.test_worlds.proofs.growths.worlds.make_all.Given as goal

abbrev pub invariant-loop : goal.invariant-loop
invariant-loop l = (l.world.n ≡ l.fn.world.n) × (l.world.limits ≡ l.fn.world.limits) × (done : List WorldStep) × (l.steps ≡ done ++ l.left) × Makes (reverse done) l.fn.world l.world
