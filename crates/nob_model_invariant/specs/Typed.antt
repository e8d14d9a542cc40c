-- What a program hands to a space is of its types: an index is a u64, a method a u16, a whole number in a value an i64. A
-- definition knows no such bounds, and what is out of them has no spelling of its own: so a run is asked to keep them.
use Rattle.std.specs.Prelude.{◌≡◌, ⊤, ◌<◌, ◌^◌, List, Some}
use Rattle.std.specs.List.{AllByRecursion}
use Rattle.nob_pickle.specs.Shape.{tree}
use Rattle.nob_pickle.specs.Limits.{IsTyped}
use Rattle.nob_model_types.specs.declared.entry.Entry.{Entry}
use Rattle.nob_model_types.specs.Deeds.{deed_in}
use Rattle.nob_model_types.specs.declared.deed.Deed.{Deed}
use Rattle.nob_model_types.specs.declared.deed.Deed.TheVariants.{Call, Finish}
use Rattle.nob_model_work.specs.Gifts.{value_of}

-- what a deed hands on from outside is of its types: the target, the method and the value of a Call, and the value of a reply
abbrev pub HandsTyped : Deed → Type 0
HandsTyped (Call target method value call) = (target.index < 2 ^ 64) × (method < 2 ^ 16) × IsTyped (tree value)
HandsTyped (Finish job outcome) = IsTyped (tree (value_of outcome))
HandsTyped (_) = ⊤

-- what an entry did hands on only what is of its types
abbrev pub IsOfTypes : Entry → Type 0
IsOfTypes entry = (deed : Deed) → deed_in entry ≡ Some deed → HandsTyped deed

-- all entries of a journal do
abbrev pub AreOfTypes : List Entry → Type 0
AreOfTypes J = AllByRecursion IsOfTypes J
