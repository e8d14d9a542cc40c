-- The objects of a space, each index with its place, in the order of the indexes.
use Rattle.std.specs.Prelude.{ℕ, Bool, true, false, List, Option, Some, None}
use Rattle.std.specs.Ordering.{nat_cmp, is_eq}
use Rattle.std.specs.Map.{lookup, remove_entry}
use Rattle.std.specs.BTreeMap.{insert_entry}
use Rattle.nob_dispatch.specs.declared.shelf.Place.{Place}
use Rattle.nob_dispatch.specs.declared.shelf.Place.TheVariants.{Here, Away}

-- whether two indexes are the same
abbrev pub same_index : ℕ → ℕ → Bool
same_index index other = is_eq (nat_cmp index other)

module _ {O : Type 0} where
  -- the place of an index, if it has one
  abbrev pub place_of : ℕ → List (ℕ × Place O) → Option (Place O)
  place_of index shelf = lookup (same_index index) shelf

  -- the shelf in which an index has this place, and each other the place that it had
  abbrev pub with_place : ℕ → Place O → List (ℕ × Place O) → List (ℕ × Place O)
  with_place index place shelf = insert_entry nat_cmp shelf index place

  -- the shelf without an index
  abbrev pub without_place : ℕ → List (ℕ × Place O) → List (ℕ × Place O)
  without_place index shelf = remove_entry (same_index index) shelf

  -- the object that is here, if it is
  abbrev pub object_in : Option (Place O) → Option O
  object_in (Some (Here object)) = Some object
  object_in (Some Away) = None
  object_in None = None

  -- whether an object is away
  abbrev pub is_away : Option (Place O) → Bool
  is_away (Some Away) = true
  is_away (Some (Here object)) = false
  is_away None = false
