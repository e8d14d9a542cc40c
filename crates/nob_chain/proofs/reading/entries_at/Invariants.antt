use Rattle.std.proofs.Common.{◌-◌, length}
use Rattle.nob_chain.proofs.ReadEntries.{FoundSoFar}
use Rattle.nob_chain.proofs.reading.entries_at.Given as goal

-- the entries that were read and the lines that are left are all
abbrev pub invariant-loop-alloc : goal.invariant-loop-alloc
invariant-loop-alloc l = FoundSoFar l.last l.text l.count l.all l.left l.low

abbrev pub decreases-loop-alloc : goal.decreases-loop-alloc
decreases-loop-alloc l = l.count - length l.all
