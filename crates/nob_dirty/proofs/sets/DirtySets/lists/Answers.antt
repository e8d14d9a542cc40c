use Rattle.std.proofs.Common.{sym}
use Rattle.nob_dirty.proofs.Listed.{flat}
use Rattle.nob_dirty.proofs.sets.DirtySets.lists.Goals as goal

pub returns : goal.returns
returns c = rw (c.lists.ensures, c.deref.ensures.value, ← c.self.view_is) (sym (flat c.args.index c.args.client c.self.inside.rows.items))
