use Rattle.std.proofs.Common.{length}
use Rattle.nob_trace.proofs.Spaced.{FoundSoFar, OnlySoFar}
use Rattle.nob_trace.proofs.frame_reading.spaced_frames.Given as goal

-- what was read and what is left are all
abbrev pub invariant-loop-left : goal.invariant-loop-left
invariant-loop-left l = FoundSoFar l.version l.text l.frames.items l.left × OnlySoFar l.version l.text l.frames.items l.left

abbrev pub decreases-loop-left : goal.decreases-loop-left
decreases-loop-left l = length l.left
