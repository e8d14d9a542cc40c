use Rattle.std.proofs.Common.{sym, ap, ◌∙◌}
use Rattle.std.specs.Option.{option_map}
use Rattle.nob_table_rows.proofs.Made.{row_each}
use Rattle.nob_table.proofs.Marks.{surrogate_of, mark_of}
use Rattle.nob_table.proofs.surrogates.Surrogates.row.Goals as goal

pub returns-clause-surrogate : goal.returns-clause-surrogate
returns-clause-surrogate c = rw (← c.self.view_is) (row_each surrogate_of c.self.inside.rows.rows c.args.rep ∙ ap (option_map surrogate_of) (sym c.get.ensures))

pub returns-clause-kept : goal.returns-clause-kept
returns-clause-kept c = rw (← c.self.view_is) (row_each mark_of c.self.inside.rows.rows c.args.rep ∙ ap (option_map mark_of) (sym c.get.ensures))
