use Rattle.nob_dirty.proofs.Listed.{left_of}
use Rattle.nob_dirty.proofs.rows.Indexes.leave.Goals as goal

pub returns : goal.returns
returns c = record { leaves = λ i. rw (← c.self.view_is) (left_of c.args.index i _ _ (c.remove.ensures.updates.0 i)) }
