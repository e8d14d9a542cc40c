use Rattle.std.proofs.Common.{◌≡◌, reverse, take}
use Rattle.test_worlds.specs.Makings.{Makes}
use Rattle.test_worlds.proofs.growths.worlds.make_each.Given as goal

abbrev pub invariant-loop-step : goal.invariant-loop-step
invariant-loop-step l = (l.world.n ≡ l.fn.world.n) × (l.world.limits ≡ l.fn.world.limits) × Makes (reverse (take l.step-index l.steps)) l.fn.world l.world
