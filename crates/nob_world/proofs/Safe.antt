-- What holds of all that happens in a world.
use Rattle.nob_model_invariant.proofs.Safe.{safe_law}
use Rattle.nob_world.specs.Worlds.{World, IsWorld, IsSafe, journal}

-- a world is safe
pub safe : (world : World) → IsWorld world → IsSafe world.n (journal world)
safe world is = safe_law world.n (λ _. world.limits) (journal world) is.run is.typed
