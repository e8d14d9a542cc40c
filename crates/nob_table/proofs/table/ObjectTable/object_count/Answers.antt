use Rattle.nob_table.proofs.Stands.{live_is_there}
use Rattle.nob_table.proofs.table.ObjectTable.object_count.Goals as goal

pub returns-clause-live : goal.returns-clause-live
returns-clause-live c = rw (← c.self.view_is) (λ rep. live_is_there _ _ _ _ _ rep _ c.self.invariant)
