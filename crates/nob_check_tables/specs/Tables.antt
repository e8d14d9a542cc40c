-- The tables of a space: what is looked up of what it did.
use Rattle.std.specs.Prelude.{ℕ, List, [], ◌∷◌}
use Rattle.nob_ids.specs.declared.wire_rep.WireRep.{WireRep}
use Rattle.nob_model_types.specs.declared.deed.Deed.{Deed}
use Rattle.nob_model_types.specs.declared.deed.Deed.TheVariants.{Act, Clean, Open}
use Rattle.nob_model_types.specs.declared.turns.Turns.{Turns}
use Rattle.nob_check_tables.specs.Closed.{closed_after}
use Rattle.nob_check_tables.specs.Numbers.{numbers_after}
use Rattle.nob_check_tables.specs.Taken.{taken_after}
use Rattle.nob_check_tables.specs.Came.{came_after, item_in}
use Rattle.nob_check_tables.specs.Rows.{with_item, rows_with_clean, without_rows}
use Rattle.nob_check_tables.specs.declared.tables.Tables.{Tables}

-- the rows after a deed
abbrev pub rows_after : Deed → Tables → List (WireRep × Turns)
rows_after (Act p k) tables = with_item tables.here.space tables.here.n p (item_in p k tables.came) tables.closed tables.rows
rows_after (Clean rep) tables = rows_with_clean rep tables.rows
rows_after (Open p k) tables = without_rows p tables.rows
rows_after (_) tables = tables.rows

-- the tables after a deed
abbrev pub tables_after : Deed → Tables → Tables
tables_after deed tables = record {
  here = tables.here;
  numbers = numbers_after deed tables.numbers;
  closed = closed_after deed tables.closed;
  taken = taken_after deed tables.numbers tables.taken;
  came = came_after deed tables.numbers tables.taken tables.came;
  rows = rows_after deed tables;
}

-- the tables of space s, among n, that did this
abbrev pub tables_of : (s n : ℕ) → List Deed → Tables
tables_of s n [] = record { here = record { space = s; n = n }; numbers = []; closed = []; taken = []; came = []; rows = [] }
tables_of s n (deed ∷ D) = tables_after deed (tables_of s n D)
