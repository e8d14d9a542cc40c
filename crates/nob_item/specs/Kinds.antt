-- What an item carries, and which items are notes.
use Rattle.std.specs.Prelude.{Bool, true, false, Option, Some, None, List, [], filter}
use Rattle.nob_ids.specs.Names.{is_counted}
use Rattle.nob_ids.specs.declared.wire_rep.WireRep.{WireRep}
use Rattle.nob_pickle.specs.Shape.{has_inside}
use Rattle.nob_pickle.specs.Spelling.{refs_in}
use Rattle.nob_pickle.specs.declared.value.Value.{Value}
use Rattle.nob_item.specs.declared.item.Item.{Item}
use Rattle.nob_item.specs.declared.item.Item.TheVariants as items

-- all but Calls and Replies are notes
abbrev pub is_note : Item → Bool
is_note (items.Call call target method value) = false
is_note (items.Reply call status value) = false
is_note (items.Settle item) = true
is_note (items.Dirty index) = true
is_note (items.DirtyOk index) = true
is_note (items.DirtyNo index) = true
is_note (items.Clean index) = true

-- whether there is anything in the value that an item carries: a note carries none
abbrev pub has_value_inside : Item → Bool
has_value_inside (items.Call call target method value) = has_inside value
has_value_inside (items.Reply call status value) = has_inside value
has_value_inside (items.Settle item) = false
has_value_inside (items.Dirty index) = false
has_value_inside (items.DirtyOk index) = false
has_value_inside (items.DirtyNo index) = false
has_value_inside (items.Clean index) = false

-- the value that an item carries: a note carries none
abbrev pub value_in : Item → Option Value
value_in (items.Call call target method value) = Some value
value_in (items.Reply call status value) = Some value
value_in (items.Settle item) = None
value_in (items.Dirty index) = None
value_in (items.DirtyOk index) = None
value_in (items.DirtyNo index) = None
value_in (items.Clean index) = None

-- the references that an item carries are those in its value, in reading order, repeats included: the target of a Call isn't one
abbrev pub refs_carried : Item → List WireRep
refs_carried (items.Call call target method value) = refs_in value
refs_carried (items.Reply call status value) = refs_in value
refs_carried (items.Settle item) = []
refs_carried (items.Dirty index) = []
refs_carried (items.DirtyOk index) = []
refs_carried (items.DirtyNo index) = []
refs_carried (items.Clean index) = []

-- the counted ones among them
abbrev pub counted_in : Item → List WireRep
counted_in item = filter is_counted (refs_carried item)
