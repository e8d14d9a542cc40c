use Rattle.std.proofs.Common.{◌≢◌, ◌<◌, ℕ, Some, slice_get}
use Rattle.nob_kept.specs.Staying as staying
use Rattle.nob_kept.proofs.noted.search.Given as goal

abbrev pub invariant-loop-spot : goal.invariant-loop-spot
invariant-loop-spot l = (at : ℕ) → at < l.spot → slice_get (staying.places l.noted) at ≢ Some l.place
