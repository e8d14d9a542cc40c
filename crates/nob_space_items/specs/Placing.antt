-- Where a message goes that was acted on.
use Rattle.std.specs.Prelude.{◌≡◌, ℕ, false, Option, Some, None}
use Rattle.nob_item.specs.Kinds.{is_note}
use Rattle.nob_item.specs.declared.item.Item.{Item}
use Rattle.nob_item.specs.declared.item.Item.TheVariants as items

-- the call that a Reply answers
abbrev pub answered_call : Item → Option ℕ
answered_call (items.Call call target method value) = None
answered_call (items.Reply call status value) = Some call
answered_call (items.Settle item) = None
answered_call (items.Dirty index) = None
answered_call (items.DirtyOk index) = None
answered_call (items.DirtyNo index) = None
answered_call (items.Clean index) = None

-- an item is a Call or a Reply
abbrev pub IsMessage : Item → Type 0
IsMessage item = is_note item ≡ false
