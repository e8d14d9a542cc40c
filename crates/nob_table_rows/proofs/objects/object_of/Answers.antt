use Rattle.std.proofs.Common.{sym, ap, ◌∙◌}
use Rattle.std.specs.Option.{option_flatten}
use Rattle.nob_table_rows.proofs.LiveRows.{row_of_slot}
use Rattle.nob_table_rows.proofs.objects.object_of.Goals as goal

pub returns-in_err-get : goal.returns-in_err-get
returns-in_err-get c = c.from_residual.ensures ∙ sym (row_of_slot c.args.slots.now.rows c.requires c.args.rep ∙ ap option_flatten (sym c.get.ensures ∙ c.in_err-get.was))

pub returns : goal.returns
returns c = sym (row_of_slot c.args.slots.now.rows c.requires c.args.rep ∙ ap option_flatten (sym c.get.ensures ∙ c.in_ok-get.was))
