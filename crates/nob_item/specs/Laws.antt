-- What is true of all items and their spellings.
use Rattle.std.specs.Prelude.{◌≡◌, ℕ, List, [], Some, None, filter}
use Rattle.nob_ids.specs.Names.{is_counted}
use Rattle.nob_pickle.specs.Spelling.{refs_in}
use Rattle.nob_pickle.specs.declared.value.Value.{Value}
use Rattle.nob_item.specs.Kinds.{value_in, counted_in}
use Rattle.nob_item.specs.Spelling.{Spelt}
use Rattle.nob_item.specs.declared.item.Item.{Item}

-- bytes spell one item
abbrev pub OneItem : Type 0
OneItem = (bytes : List ℕ) (item twin : Item) → Spelt bytes item → Spelt bytes twin → item ≡ twin

-- the counted references of an item are those in its value with an index other than 0, in their order, repeats too; a note has none
abbrev pub CountedAreRefs : Type 0
CountedAreRefs = ((item : Item) (value : Value) → value_in item ≡ Some value → counted_in item ≡ filter is_counted (refs_in value)) × ((item : Item) → value_in item ≡ None → counted_in item ≡ [])
