use Rattle.std.proofs.Common.{length}
use Rattle.nob_chain.proofs.ReadInputs.{FoundAll, OnlyAll}
use Rattle.nob_chain.proofs.inputs.decode_all.Given as goal

-- what was read and what is left are all
abbrev pub invariant-loop-left : goal.invariant-loop-left
invariant-loop-left l = FoundAll l.input l.all.items l.left × OnlyAll l.input l.all.items l.left

abbrev pub decreases-loop-left : goal.decreases-loop-left
decreases-loop-left l = length l.left
