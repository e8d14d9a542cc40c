-- `put_all` goes on with the frames behind the first.
use Rattle.std.proofs.Common.{length}
use Rattle.nob_host_space.proofs.bytes.+put_all.Given as goal

abbrev pub decreases-put_all : goal.decreases-put_all
decreases-put_all l = length l.frames.now
