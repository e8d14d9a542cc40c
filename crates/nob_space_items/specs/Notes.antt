-- What is answered to a Dirty.
use Rattle.std.specs.Prelude.{ℕ, Bool, true, false, List}
use Rattle.nob_item.specs.declared.item.Item.{Item}
use Rattle.nob_item.specs.declared.item.Item.TheVariants as items
use Rattle.nob_dirty.specs.declared.sets.Listing.{Listing}
use Rattle.nob_dirty.specs.Sets.{Enters, ListsSame}

-- a client that asks for an object is told that it is entered, where the object is live, and else that there is none
abbrev pub dirty_answer : Bool → ℕ → Item
dirty_answer true index = items.DirtyOk index
dirty_answer false index = items.DirtyNo index

-- the client that is so told is entered for the index, where the object is live, and else nobody is
abbrev pub EntersIf : Bool → List Listing → List Listing → (index client : ℕ) → Type 0
EntersIf true old new index client = Enters old new index client
EntersIf false old new index client = ListsSame old new
