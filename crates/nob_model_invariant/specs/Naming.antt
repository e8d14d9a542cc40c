-- What items name: the references that they carry, and the object that they call or are about.
use Rattle.std.specs.Prelude.{◌≡◌, ℕ, true, ◌==◌, List, [], ◌∷◌, ◌++◌, if◌then◌else◌}
use Rattle.std.specs.List.{AllByRecursion}
use Rattle.nob_ids.specs.declared.wire_rep.WireRep.{WireRep}
use Rattle.nob_item.specs.Kinds.{counted_in}
use Rattle.nob_item.specs.declared.item.Item.{Item}
use Rattle.nob_item.specs.declared.item.Item.TheVariants as items
use Rattle.nob_model_types.specs.declared.entry.Entry.{Entry}
use Rattle.nob_model_types.specs.Objects.{is_exported}
use Rattle.nob_model_journal.specs.Journals.{deeds_at}

-- the object of the receiver that an item is for: the one that a Call calls, the agent aside, and the one that is asked for or given up
abbrev pub object_of : (to : ℕ) → Item → List WireRep
object_of to (items.Call call target method value) = if target == 0 then [] else record { owner = to; index = target } ∷ []
object_of to (items.Reply call status value) = []
object_of to (items.Settle item) = []
object_of to (items.Dirty index) = record { owner = to; index = index } ∷ []
object_of to (items.DirtyOk index) = []
object_of to (items.DirtyNo index) = []
object_of to (items.Clean index) = record { owner = to; index = index } ∷ []

-- the references that an item to a space names: the object that it is for, and the counted ones that it carries
abbrev pub named_in : (to : ℕ) → Item → List WireRep
named_in to item = object_of to item ++ counted_in item

-- a reference names an object that its owner exported
abbrev pub WasExported : List Entry → WireRep → Type 0
WasExported J rep = is_exported rep.owner rep.index (deeds_at rep.owner J) ≡ true

-- all that an item to a space names was exported
abbrev pub NamesExported : List Entry → (to : ℕ) → Item → Type 0
NamesExported J to item = AllByRecursion (WasExported J) (named_in to item)
