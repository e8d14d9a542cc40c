-- Items in queues, as a contract sees them.
use Rattle.std.specs.Prelude.{◌≡◌, ℕ, ◌==◌, false, List, [], ◌∷◌, slice_get, slice_set, Option, Some, None, refl}
use Rattle.std.specs.Coded.{Coded, code_by, coded×, coded_ℕ, coded_list}
use Rattle.std.specs.Map.{set_value}
use Rattle.nob_slots.specs.Slots.{SlotList, slot_list_code, is_number}

-- the queues, each with its items under rising numbers, and how many more items fit without memory, of whichever queue
pub record QueueLists (T : Type 0) : Type 0 where
  pub queues : List (SlotList T)
  pub room : ℕ

-- they are stored as the tuple of their fields
abbrev pub queue_lists_code : {T : Type 0} → Coded T → Coded (QueueLists T)
queue_lists_code {T} code =
    code_by
    (List (SlotList T) × ℕ)
    (coded× (coded_list (slot_list_code code)) coded_ℕ)
    (λ l. (l.queues, l.room))
    (λ p. record { queues = p.0; room = p.1 })
    (λ _. refl)

module _ {T : Type 0} where
  -- a queue that there may be, or one of nothing
  abbrev pub queue_or_none : Option (SlotList T) → SlotList T
  queue_or_none None = record { rows = []; marked = []; room = 0 }
  queue_or_none (Some queue) = queue

  -- the queue at a place
  abbrev pub queue_at : QueueLists T → ℕ → SlotList T
  queue_at lists queue = queue_or_none (slice_get lists.queues queue)

  -- the items of a queue with their numbers, in order
  abbrev pub rows_at : QueueLists T → ℕ → List (ℕ × T)
  rows_at lists queue = (queue_at lists queue).rows

  -- the numbers of the marked items of a queue
  abbrev pub marked_at : QueueLists T → ℕ → List ℕ
  marked_at lists queue = (queue_at lists queue).marked

  -- how many more items a queue has room for, beside the room for items
  abbrev pub room_at : QueueLists T → ℕ → ℕ
  room_at lists queue = (queue_at lists queue).room

  -- every queue but one is the same as before
  abbrev pub SameOthers : (old new : QueueLists T) → ℕ → Type 0
  SameOthers old new queue = (other : ℕ) → (other == queue) ≡ false → queue_at new other ≡ queue_at old other

  -- every queue but one is the same as before, and for as many items as before there is room, in that one too
  pub record KeepsBut (old new : QueueLists T) (queue : ℕ) : Type 0 where
    pub others : SameOthers old new queue
    pub queue_room : room_at new queue ≡ room_at old queue
    pub room : new.room ≡ old.room

  -- an item under a number, if there is one
  abbrev pub row_if : ℕ → Option T → List (ℕ × T)
  row_if number None = []
  row_if number (Some item) = (number, item) ∷ []

  -- a queue with this item in the place of the one under a number
  abbrev pub with_item : SlotList T → ℕ → T → SlotList T
  with_item queue number item = record { rows = set_value (is_number number) queue.rows item; marked = queue.marked; room = queue.room }

  -- the queues with this item in the place of the one under a number of a queue
  abbrev pub writes_item : QueueLists T → (queue number : ℕ) → T → QueueLists T
  writes_item lists queue number item = record { queues = slice_set lists.queues queue (with_item (queue_at lists queue) number item); room = lists.room }
