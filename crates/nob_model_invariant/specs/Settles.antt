-- Which items a space settled, read off what it sent to their sender.
use Rattle.std.specs.Prelude.{◌≡◌, ⊤, ℕ, ◌-◌, Bool, true, false, ◌==◌, slice_get, List, [], ◌∷◌, filter_map, Option, Some, None}
use Rattle.std.specs.List.{list_any}
use Rattle.nob_item.specs.Kinds.{counted_in}
use Rattle.nob_item.specs.declared.item.Item.{Item}
use Rattle.nob_item.specs.declared.item.Item.TheVariants as items
use Rattle.nob_model_history.specs.Transit.{is_some_of}

-- the number of the item that a note settles
abbrev pub settle_in : Item → Option ℕ
settle_in (items.Call call target method value) = None
settle_in (items.Reply call status value) = None
settle_in (items.Settle item) = Some item
settle_in (items.Dirty index) = None
settle_in (items.DirtyOk index) = None
settle_in (items.DirtyNo index) = None
settle_in (items.Clean index) = None

-- the numbers that are settled among items
abbrev pub settles_among : List Item → List ℕ
settles_among more = filter_map settle_in more

-- whether a number is among some
abbrev pub is_in : ℕ → List ℕ → Bool
is_in k ks = list_any (λ j. j == k) ks

-- no number stands twice
abbrev pub AreOnce : List ℕ → Type 0
AreOnce [] = ⊤
AreOnce (k ∷ ks) = (is_in k ks ≡ false) × AreOnce ks

-- item k of those that were acted on carries counted references
abbrev pub IsCarrying : List (ℕ × Option Item) → ℕ → Type 0
IsCarrying pairs k = (item : Item) × (slice_get pairs (k - 1) ≡ Some (k, Some item)) × (is_some_of (counted_in item) ≡ true)
