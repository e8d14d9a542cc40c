use Rattle.std.proofs.Common.{◌-◌, length}
use Rattle.nob_trace.proofs.ReadLines.{FoundSoFar, OnlySoFar}
use Rattle.nob_trace.proofs.reading.entries_at.Given as goal

-- the entries that were read and the lines that are left are all
abbrev pub invariant-loop-alloc : goal.invariant-loop-alloc
invariant-loop-alloc l = FoundSoFar l.version l.text l.count l.all l.left × OnlySoFar l.version l.text l.count l.all l.left

abbrev pub decreases-loop-alloc : goal.decreases-loop-alloc
decreases-loop-alloc l = l.count - length l.all
