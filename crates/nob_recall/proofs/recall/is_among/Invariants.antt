use Rattle.std.proofs.Common.{◌≤◌, drop, length}
use Rattle.std.specs.List.{Contains}
use Rattle.nob_recall.proofs.recall.is_among.Given as goal

-- it is none of those from a place on
abbrev pub invariant-loop-place : goal.invariant-loop-place
invariant-loop-place l = record {
  within : l.place ≤ length l.frames;
  none : Contains (drop l.place l.frames) l.frame → ⊥;
}

abbrev pub decreases-loop-place : goal.decreases-loop-place
decreases-loop-place l = l.place
