use Rattle.std.proofs.Common.{◌≤◌, length}
use Rattle.test_worlds.proofs.naming.own_input.Given as goal

-- what is left is no longer than all
abbrev pub invariant-loop-line : goal.invariant-loop-line
invariant-loop-line l = length l.left ≤ length l.text

-- each line leaves fewer bytes
abbrev pub decreases-loop-line : goal.decreases-loop-line
decreases-loop-line l = length l.left
