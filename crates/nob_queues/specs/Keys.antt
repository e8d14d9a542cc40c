-- How items stand in a slab, and the queues are lists of keys. No public clause cites this module.
use Rattle.std.specs.Prelude.{◌≡◌, ℕ, ◌+◌, List, [], ◌∷◌, length, count_by, slice_get, slice_index_or, Option, Some, None, is_some, IsSome}
use Rattle.nob_slots.specs.Slots.{SlotList, item_at, IsRising}
use Rattle.nob_queues.specs.Queues.{queue_or_none}

-- the keys of a queue under their numbers
abbrev pub keys_at : List (SlotList ℕ) → ℕ → List (ℕ × ℕ)
keys_at queues queue = (queue_or_none (slice_get queues queue)).rows

-- a key stands in a queue under a number
abbrev pub Stands : List (SlotList ℕ) → (queue number key : ℕ) → Type 0
Stands queues queue number key = item_at (keys_at queues queue) number ≡ Some key

-- how many keys the queues have
abbrev pub key_count : List (SlotList ℕ) → ℕ
key_count [] = 0
key_count (keys ∷ queues) = length keys.rows + key_count queues

module _ {T : Type 0} where
  -- what a slab has under a key
  abbrev pub item_of : List (Option T) → ℕ → Option T
  item_of slots key = slice_index_or slots key None

  -- a row in front of others, where there is an item for it
  abbrev pub with_row : ℕ → Option T → List (ℕ × T) → List (ℕ × T)
  with_row number None rows = rows
  with_row number (Some item) rows = (number, item) ∷ rows

  -- the items of these keys, with the numbers of the keys
  abbrev pub rows_of : List (Option T) → List (ℕ × ℕ) → List (ℕ × T)
  rows_of slots [] = []
  rows_of slots (row ∷ rows) = with_row row.0 (item_of slots row.1) (rows_of slots rows)

  -- a queue of items, where it is one of keys
  abbrev pub queue_of : List (Option T) → SlotList ℕ → SlotList T
  queue_of slots keys = record { rows = rows_of slots keys.rows; marked = keys.marked; room = keys.room }

  -- what holds of what the slab has and of the keys in the queues
  pub record AreKept (slots : List (Option T)) (queues : List (SlotList ℕ)) : Type 0 where
    pub rising : (queue : ℕ) → IsRising (keys_at queues queue)
    -- each key has an item
    pub there : (queue number key : ℕ) → Stands queues queue number key → IsSome (item_of slots key)
    -- no key stands twice
    pub once : (queue number other second key : ℕ) → Stands queues queue number key → Stands queues other second key → (queue ≡ other) × (number ≡ second)
    -- and no item stands nowhere
    pub all : count_by is_some slots ≡ key_count queues
