use Rattle.nob_dirty.proofs.Listed.{empty_rows}
use Rattle.nob_dirty.proofs.sets.DirtySets.is_empty.Goals as goal

pub returns : goal.returns
returns c = rw (c.has_clients.ensures, c.deref.ensures.value, ← c.self.view_is) (empty_rows c.args.index c.self.inside.rows.items)
