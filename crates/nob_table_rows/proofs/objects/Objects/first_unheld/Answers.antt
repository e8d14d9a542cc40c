use Rattle.nob_table_rows.specs.Counts.{is_unheld_object}
use Rattle.nob_table_rows.specs.Objects.{live_rows}
use Rattle.nob_table_rows.proofs.Made.{first_unheld}
use Rattle.nob_table_rows.proofs.objects.Objects.first_unheld.Goals as goal

pub returns : goal.returns
returns c = record { first = rw (← c.self.view_is) (first_unheld (live_rows c.self.inside.slots.rows) c.args.index c.first_passing.result (c.first_passing.ensures is_unheld_object c.self.invariant.unheld_are)) }
