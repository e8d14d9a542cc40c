use Rattle.std.specs.Prelude.{◌≡◌}
use Rattle.nob_dispatch.proofs.pool.carry_out.Given as goal

abbrev pub invariant-loop : goal.invariant-loop
invariant-loop g l = (l.hand.taken ≡ l.fn.hand.taken) × (l.hand.fault ≡ l.fn.hand.fault) × (l.hand.stakes ≡ l.fn.hand.stakes)
