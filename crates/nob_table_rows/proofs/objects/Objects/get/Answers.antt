use Rattle.std.proofs.Common.{sym, ap, ◌∙◌}
use Rattle.std.specs.Option.{option_map}
use Rattle.nob_table_rows.specs.declared.object.Object.{Object}
use Rattle.nob_table_rows.specs.Objects.{live_rows}
use Rattle.nob_table_rows.proofs.Made.{row_each}
use Rattle.nob_table_rows.proofs.objects.Objects.get.Goals as goal

pub returns-in_err-object : goal.returns-in_err-object
returns-in_err-object c =
    rw (← c.self.view_is) (c.from_residual.ensures ∙ sym (row_each (λ (o : Object). o.counts) (live_rows c.self.inside.slots.rows) c.args.rep ∙ ap (option_map (λ (o : Object). o.counts)) (sym c.object_of.ensures ∙ c.in_err-object.was)))

pub returns : goal.returns
returns c = rw (← c.self.view_is) (sym (row_each (λ (o : Object). o.counts) (live_rows c.self.inside.slots.rows) c.args.rep ∙ ap (option_map (λ (o : Object). o.counts)) (sym c.object_of.ensures ∙ c.in_ok-object.was)))
