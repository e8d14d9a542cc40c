use Rattle.std.proofs.Common.{length}
use Rattle.nob_frame.proofs.Splitting.{Reads}
use Rattle.nob_frame.proofs.feed.scan.Given as goal

abbrev pub invariant-loop-header : goal.invariant-loop-header
invariant-loop-header l = Reads l.bytes l.frames.items l.rest

abbrev pub decreases-loop-header : goal.decreases-loop-header
decreases-loop-header l = length l.rest
