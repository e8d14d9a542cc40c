use Rattle.std.proofs.Common.{◌-◌, length}
use Rattle.nob_chain.proofs.ReadSegments.{FoundSegments}
use Rattle.nob_chain.proofs.reading.segments_at.Given as goal

-- the segments that were read and the lines that are left are all
abbrev pub invariant-loop-alloc : goal.invariant-loop-alloc
invariant-loop-alloc l = FoundSegments l.head l.text l.all.items l.left l.last

abbrev pub decreases-loop-alloc : goal.decreases-loop-alloc
decreases-loop-alloc l = l.head.count - length l.all.items
