use Rattle.nob_table_rows.specs.Counts.{is_spare_object}
use Rattle.nob_table_rows.specs.Objects.{live_rows}
use Rattle.nob_table_rows.proofs.Made.{first_spare}
use Rattle.nob_table_rows.proofs.objects.Objects.first_spare.Goals as goal

pub returns : goal.returns
returns c = record { first = rw (← c.self.view_is) (first_spare (live_rows c.self.inside.slots.rows) c.args.index c.first_passing.result (c.first_passing.ensures is_spare_object c.self.invariant.spare_are)) }
