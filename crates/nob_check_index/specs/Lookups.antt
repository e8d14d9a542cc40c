-- The tables of a space: what is looked up of what it did.
use Rattle.std.specs.Prelude.{ℕ, List}
use Rattle.nob_model_types.specs.declared.deed.Deed.{Deed}
use Rattle.nob_check_tables.specs.Tables.{tables_of, tables_after}
use Rattle.nob_check_index.specs.More.{more_of, more_after}
use Rattle.nob_check_index.specs.declared.lookups.Lookups.{Lookups}

-- the tables of space s, among n, that did this
abbrev pub lookups_of : (s n : ℕ) → List Deed → Lookups
lookups_of s n D = record { tables = tables_of s n D; more = more_of s n D }

-- the tables after a deed
abbrev pub lookups_after : Deed → Lookups → Lookups
lookups_after deed lookups = record {
  tables = tables_after deed lookups.tables;
  more = more_after deed lookups.tables lookups.more;
}
