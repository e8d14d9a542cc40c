use Rattle.std.proofs.Common.{◌-◌, length}
use Rattle.nob_host_space.proofs.Copied.{AreCopied}
use Rattle.nob_host_space.proofs.births.birth_of.Given as goal

abbrev pub invariant-loop-place : goal.invariant-loop-place
invariant-loop-place l = record { copied : AreCopied l.sessions l.all l.place }

abbrev pub decreases-loop-place : goal.decreases-loop-place
decreases-loop-place l = length l.sessions - l.place
