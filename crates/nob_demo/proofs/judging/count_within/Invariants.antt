use Rattle.std.proofs.Common.{◌≡◌, ◌≤◌}
use Rattle.nob_demo.specs.Judging.{count_within}
use Rattle.nob_demo.proofs.judging.count_within.Given as goal

-- the entries of the segments so far are counted
abbrev pub invariant-loop-place : goal.invariant-loop-place
invariant-loop-place l = (l.passed ≡ count_within l.place l.chain) × (l.place ≤ l.number)
