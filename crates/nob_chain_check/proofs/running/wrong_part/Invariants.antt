use Rattle.nob_chain_check.proofs.Passing.{HasPassed}
use Rattle.nob_chain_check.proofs.running.wrong_part.Given as goal

-- the space answered the entries of the segments so far, and the first wrong seal of these is known
abbrev pub invariant-loop-place : goal.invariant-loop-place
invariant-loop-place l = HasPassed l.chain l.place l.passed l.wrong l.space
