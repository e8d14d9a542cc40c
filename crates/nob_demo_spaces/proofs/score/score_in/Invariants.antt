use Rattle.std.proofs.Common.{◌≡◌, take, reverse}
use Rattle.nob_demo_spaces.specs.Scores.{score_of}
use Rattle.nob_demo_spaces.proofs.score.score_in.Given as goal

-- the score so far is that of the entries so far
abbrev pub invariant-loop-entry : goal.invariant-loop-entry
invariant-loop-entry l = l.score ≡ score_of (reverse (take l.entry-index l.entries))
