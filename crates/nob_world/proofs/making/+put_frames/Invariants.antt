use Rattle.std.proofs.Common.{length}
use Rattle.nob_world.proofs.making.+put_frames.Given as goal

abbrev pub decreases-put_frames : goal.decreases-put_frames
decreases-put_frames l = length l.more.items
