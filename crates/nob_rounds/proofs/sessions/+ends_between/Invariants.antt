use Rattle.std.proofs.Common.{length}
use Rattle.nob_rounds.proofs.sessions.+ends_between.Given as goal

abbrev pub decreases-ends_between : goal.decreases-ends_between
decreases-ends_between l = length l.spaces.now
