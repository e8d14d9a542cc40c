use Rattle.std.proofs.Common.{length}
use Rattle.test_worlds.proofs.run_each.Given as goal

-- each test leaves fewer bytes
abbrev pub decreases-loop-line : goal.decreases-loop-line
decreases-loop-line l = length l.left
