use Rattle.nob_table.proofs.far.Far.surrogates_of.Goals as goal

pub returns-clause-once : goal.returns-clause-once
returns-clause-once c = rw (← c.self.view_is) c.self.invariant.far.once
