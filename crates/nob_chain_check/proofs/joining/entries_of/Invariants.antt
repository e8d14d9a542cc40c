use Rattle.std.proofs.Common.{◌≡◌, ◌++◌}
use Rattle.nob_chain.specs.Chains.{entries_of}
use Rattle.nob_chain_check.proofs.joining.entries_of.Given as goal

-- the entries so far and those of the segments that are left are all
abbrev pub invariant-loop-segment : goal.invariant-loop-segment
invariant-loop-segment l = l.all.items ++ entries_of l.segment-iterator.rest.items ≡ entries_of l.fn.segments.items
