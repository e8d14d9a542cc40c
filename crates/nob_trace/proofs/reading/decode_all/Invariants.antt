use Rattle.std.proofs.Common.{length}
use Rattle.nob_trace.proofs.ReadTraces.{FoundAll, OnlyAll}
use Rattle.nob_trace.proofs.reading.decode_all.Given as goal

-- the traces that were read and what is left are all
abbrev pub invariant-loop-left : goal.invariant-loop-left
invariant-loop-left l = FoundAll l.text l.all.items l.left × OnlyAll l.text l.all.items l.left

abbrev pub decreases-loop-left : goal.decreases-loop-left
decreases-loop-left l = length l.left
