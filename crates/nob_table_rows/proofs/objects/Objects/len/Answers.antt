use Rattle.std.proofs.Common.{sym, ◌∙◌}
use Rattle.nob_table_rows.specs.declared.object.Object.{Object}
use Rattle.nob_table_rows.specs.Objects.{live_rows}
use Rattle.nob_table_rows.proofs.LiveRows.{once_live}
use Rattle.nob_table_rows.proofs.Made.{length_each, once_each, some_each}
use Rattle.nob_table_rows.proofs.objects.Objects.len.Goals as goal

pub returns-clause-len : goal.returns-clause-len
returns-clause-len c = rw (← c.self.view_is) (c.self.invariant.slots_are.count ∙ sym (length_each (λ (o : Object). o.counts) (live_rows c.self.inside.slots.rows)))

pub returns-clause-once : goal.returns-clause-once
returns-clause-once c = rw (← c.self.view_is) (once_each (λ (o : Object). o.counts) (live_rows c.self.inside.slots.rows) (once_live c.self.inside.slots.rows c.self.invariant.slots_are.once))

pub returns-clause-kept : goal.returns-clause-kept
returns-clause-kept c =
    rw (← c.self.view_is) (λ rep. some_each (λ (o : Object). o.kept) (live_rows c.self.inside.slots.rows) rep ∙ sym (some_each (λ (o : Object). o.counts) (live_rows c.self.inside.slots.rows) rep))
