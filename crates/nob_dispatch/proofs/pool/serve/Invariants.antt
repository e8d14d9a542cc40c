use Rattle.std.specs.Prelude.{◌≡◌}
use Rattle.nob_dispatch.specs.Faults.{GivesUpFor}
use Rattle.nob_dispatch.proofs.pool.serve.Given as goal

abbrev pub invariant-loop : goal.invariant-loop
invariant-loop g l = GivesUpFor (g.C.JobCalls.answered l.fn.keeper) l.fn.hand.fault l.hand.fault × (l.hand.stakes ≡ l.fn.hand.stakes)
