use Rattle.std.proofs.Common.{length}
use Rattle.test_worlds.proofs.next.reading.+behind_space.Given as goal

abbrev pub decreases-behind_space : goal.decreases-behind_space
decreases-behind_space l = length l.line.now
