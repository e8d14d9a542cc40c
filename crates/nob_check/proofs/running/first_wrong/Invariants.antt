use Rattle.nob_check.proofs.Answering.{IsAt}
use Rattle.nob_check.proofs.running.first_wrong.Given as goal

-- the space answered the entries so far
abbrev pub invariant-loop-place : goal.invariant-loop-place
invariant-loop-place l = IsAt l.trace l.place l.space
