use Rattle.std.proofs.Common.{sym, ◌∙◌}
use Rattle.nob_table_rows.proofs.Made.{length_each, once_each, some_each}
use Rattle.nob_table.proofs.Marks.{surrogate_of, mark_of}
use Rattle.nob_table.proofs.surrogates.Surrogates.len.Goals as goal

pub returns-clause-len : goal.returns-clause-len
returns-clause-len c = rw (← c.self.view_is) (c.len.ensures.len ∙ sym (length_each surrogate_of c.self.inside.rows.rows))

pub returns-clause-once : goal.returns-clause-once
returns-clause-once c = rw (← c.self.view_is) (once_each surrogate_of c.self.inside.rows.rows c.len.ensures.once)

pub returns-clause-kept : goal.returns-clause-kept
returns-clause-kept c = rw (← c.self.view_is) (λ rep. some_each mark_of c.self.inside.rows.rows rep ∙ sym (some_each surrogate_of c.self.inside.rows.rows rep))
