-- What is seen of an item without its value.
use Rattle.std.specs.Prelude.{ℕ, List, length, Option, Some, None, Result, Ok, Err}
use Rattle.nob_pickle.specs.Spelling.{refs_in}
use Rattle.nob_item.specs.declared.fault.ItemFault.{ItemFault}
use Rattle.nob_item.specs.declared.item.Item.{Item}
use Rattle.nob_item.specs.declared.item.Item.TheVariants as items
use Rattle.nob_peek.specs.declared.seeing.Seen.{Seen}
use Rattle.nob_peek.specs.declared.seeing.Seen.TheVariants as sights

-- what is seen of an item: its numbers, and how many references its value has
abbrev pub seen : Item → Seen
seen (items.Call call target method value) = sights.Call call target method (length (refs_in value))
seen (items.Reply call status value) = sights.Reply call status (length (refs_in value))
seen (items.Settle item) = sights.Settle item
seen (items.Dirty index) = sights.Dirty index
seen (items.DirtyOk index) = sights.DirtyOk index
seen (items.DirtyNo index) = sights.DirtyNo index
seen (items.Clean index) = sights.Clean index

-- what is seen of an item that was read, if it was
abbrev pub seen_in : Result Item ItemFault → Option Seen
seen_in (Ok item) = Some (seen item)
seen_in (Err fault) = None

-- what was read, if it was
abbrev pub front_seen : {X : Type 0} → Result X ItemFault → Option X
front_seen (Ok x) = Some x
front_seen (Err fault) = None
