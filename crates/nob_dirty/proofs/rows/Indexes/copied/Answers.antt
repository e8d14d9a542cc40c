use Rattle.std.proofs.lemmas.Map.Keys.{IsStrictlyIncreasing-from_sorted}
use Rattle.nob_dirty.proofs.rows.Indexes.copied.Goals as goal

pub returns-clause-rising : goal.returns-clause-rising
returns-clause-rising c = rw (← c.self.view_is) (IsStrictlyIncreasing-from_sorted _ c.iter.ensures.ordered)
