-- Which copies of a reference came since it was given up last, or the session with its owner was opened anew, the first
-- first: who sent each, in which session, and in which item.
use Rattle.std.specs.Prelude.{ℕ, Bool, not, ◌==◌, List, [], ◌∷◌, ◌++◌, filter, Option, Some, None, if◌then◌else◌}
use Rattle.std.specs.List.{list_any}
use Rattle.std.specs.Map.{lookup}
use Rattle.indexmap.specs.IndexMap.{insert_entry}
use Rattle.nob_ids.specs.Names.{is_same}
use Rattle.nob_ids.specs.declared.wire_rep.WireRep.{WireRep}
use Rattle.nob_item.specs.Kinds.{counted_in}
use Rattle.nob_item.specs.declared.item.Item.{Item}
use Rattle.nob_model_types.specs.declared.deed.Deed.{Deed}
use Rattle.nob_model_types.specs.declared.deed.Deed.TheVariants.{Act, Clean, Open}
use Rattle.nob_model_journal.specs.declared.losses.Source.{Source}
use Rattle.nob_check_tables.specs.Came.{item_in}
use Rattle.nob_check_tables.specs.Numbers.{number_in}
use Rattle.nob_check_tables.specs.Rows.{turns_in}
use Rattle.nob_check_tables.specs.Tables.{tables_of}
use Rattle.nob_check_tables.specs.declared.tables.Tables.{Tables}

-- the copies that were found, none where there is no row
abbrev pub found_sources : Option (List Source) → List Source
found_sources None = []
found_sources (Some copies) = copies

-- the copies of a reference
abbrev pub sources_in : WireRep → List (WireRep × List Source) → List Source
sources_in rep rows = found_sources (lookup (is_same rep) rows)

-- the rows with other copies of a reference
abbrev pub with_sources : WireRep → List Source → List (WireRep × List Source) → List (WireRep × List Source)
with_sources rep copies rows = insert_entry is_same rows rep copies

-- the rows once a copy of a reference came
abbrev pub with_source : Source → WireRep → List (WireRep × List Source) → List (WireRep × List Source)
with_source source rep rows = with_sources rep (sources_in rep rows ++ source ∷ []) rows

-- the rows once copies of some references came, of each of them one
abbrev pub with_copies : Source → List WireRep → List (WireRep × List Source) → List (WireRep × List Source)
with_copies source [] rows = rows
with_copies source (rep ∷ reps) rows = if list_any (is_same rep) reps then with_copies source reps rows else with_source source rep (with_copies source reps rows)

-- the rows once an item was acted on
abbrev pub with_item : Source → Option Item → List (WireRep × List Source) → List (WireRep × List Source)
with_item source None rows = rows
with_item source (Some item) rows = with_copies source (counted_in item) rows

-- the rows once a Clean of a reference was sent, where it was asked for before
abbrev pub sources_with_clean : WireRep → Bool → List (WireRep × List Source) → List (WireRep × List Source)
sources_with_clean rep asks rows = if not asks then rows else with_sources rep [] rows

-- the rows without those of the references that p owns
abbrev pub without_rows : ℕ → List (WireRep × List Source) → List (WireRep × List Source)
without_rows p rows = filter (λ row. not (p == row.0.owner)) rows

-- the rows after a deed, by the tables before it
abbrev pub sources_after : Deed → Tables → List (WireRep × List Source) → List (WireRep × List Source)
sources_after (Act p k) tables rows = with_item (record { from = p; session = number_in p tables.numbers; number = k }) (item_in p k tables.came) rows
sources_after (Clean rep) tables rows = sources_with_clean rep (turns_in rep tables.rows).asks rows
sources_after (Open p k) tables rows = without_rows p rows
sources_after (_) tables rows = rows

-- the rows of space s, among n, that did this
abbrev pub sources_of : (s n : ℕ) → List Deed → List (WireRep × List Source)
sources_of s n [] = []
sources_of s n (deed ∷ D) = sources_after deed (tables_of s n D) (sources_of s n D)

-- a test of copies
abbrev pub SourceTest : Type 0
SourceTest = Source → Bool
