use Rattle.nob_table.proofs.Stands.{placed}
use Rattle.nob_table.proofs.table.ObjectTable.surrogate_count_of.Goals as goal

pub returns-clause-placed : goal.returns-clause-placed
returns-clause-placed c = rw (← c.self.view_is) (λ rep. placed _ _ _ _ _ rep _ c.self.invariant)
