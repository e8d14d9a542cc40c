use Rattle.nob_frame.proofs.Runs.{begins_cut}
use Rattle.nob_frame.proofs.feed.Feed.new.Goals as goal

pub invariant_of-result : goal.invariant_of-result
invariant_of-result c = rw (c.new.ensures.items, c.header_len.ensures) begins_cut
