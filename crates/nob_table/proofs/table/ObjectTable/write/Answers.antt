use Rattle.std.proofs.Common.{sym}
use Rattle.nob_table.proofs.Stands.{written}
use Rattle.nob_table.proofs.table.ObjectTable.write.Goals as goal

pub returns-else-eq-clause-written : goal.returns-else-eq-clause-written
returns-else-eq-clause-written c =
    rw (← c.self.view_is, c.set_counts.ensures.surrogates) (written _ _ _ _ _ c.args.rep.now c.set_counts.new.self.counted c.args.counts
    (sym c.if-eq.ensures) (rw (← c.self.view_is) at c.requires.known) c.set_counts.ensures.counted)
