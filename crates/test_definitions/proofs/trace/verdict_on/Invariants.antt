use Rattle.std.proofs.Common.{◌≡◌}
use Rattle.test_definitions.proofs.Judging.{AreBefore}
use Rattle.test_definitions.proofs.trace.verdict_on.Given as goal

-- the entries so far are right
abbrev pub invariant-loop-place : goal.invariant-loop-place
invariant-loop-place l = (l.here.space ≡ l.trace.space) × (l.here.n ≡ l.trace.n) × (l.all ≡ l.trace.entries) × AreBefore l.trace l.place l.before.items
