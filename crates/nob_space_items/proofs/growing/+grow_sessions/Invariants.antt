use Rattle.std.proofs.Common.{length}
use Rattle.nob_space_items.proofs.growing.+grow_sessions.Given as goal

abbrev pub decreases-grow_sessions : goal.decreases-grow_sessions
decreases-grow_sessions l = length l.reps.now
