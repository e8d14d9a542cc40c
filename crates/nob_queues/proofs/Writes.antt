-- What the writing of an item makes of the queues, for callers.
use Rattle.std.proofs.Common.{◌≡◌, ℕ, ◌<◌, List, [], ◌∷◌, length, Option, Some, slice_get, refl, ap, ◌∙◌, arith}
use Prim.Native.Nat.{zero, suc}
use Rattle.std.proofs.lemmas.Bool.{eqb-false}
use Rattle.std.specs.Map.{set_value}
use Rattle.nob_slots.specs.Slots.{SlotList, is_number}
use Rattle.nob_slots.proofs.Flat.{get_set_other, get_set_same}
use Rattle.nob_queues.specs.Queues.{QueueLists, KeepsBut, marked_at, queue_at, queue_or_none, rows_at, with_item, writes_item}

-- what stands at a place below the length
pub in_range : {X : Type 0} (xs : List X) (i : ℕ) → i < length xs → (x : X) × (slice_get xs i ≡ Some x)
in_range [] i less = absurd (omega (arith, less))
in_range (x ∷ xs) zero less = (x, refl)
in_range (x ∷ xs) (suc i) less = in_range xs i (omega (arith, less))

module _ {T : Type 0} (lists : QueueLists T) (queue number : ℕ) (item : T) (within : queue < length lists.queues) where
  here : queue_at (writes_item lists queue number item) queue ≡ with_item (queue_at lists queue) number item
  here =
      let old = in_range lists.queues queue within in
      ap (λ (o : Option (SlotList T)). queue_or_none o) (get_set_same lists.queues queue old.0 (with_item (queue_at lists queue) number item) old.1)

  pub written_rows : rows_at (writes_item lists queue number item) queue ≡ set_value (is_number number) (rows_at lists queue) item
  written_rows = ap (λ (q : SlotList T). q.rows) here

  pub written_marked : marked_at (writes_item lists queue number item) queue ≡ marked_at lists queue
  written_marked = ap (λ (q : SlotList T). q.marked) here

  pub written_kept : KeepsBut lists (writes_item lists queue number item) queue
  written_kept = record {
    others = λ other differs. ap (λ (o : Option (SlotList T)). queue_or_none o) (get_set_other lists.queues queue other (with_item (queue_at lists queue) number item) (eqb-false other queue differs));
    queue_room = ap (λ (q : SlotList T). q.room) here;
    room = refl;
  }

-- what keeps all but one queue twice keeps it
pub kept_twice : {T : Type 0} (first second third : QueueLists T) (queue : ℕ) → KeepsBut first second queue → KeepsBut second third queue → KeepsBut first third queue
kept_twice first second third queue one two = record {
  others = λ other differs. two.others other differs ∙ one.others other differs;
  queue_room = two.queue_room ∙ one.queue_room;
  room = two.room ∙ one.room;
}

pub kept_same : {T : Type 0} (lists : QueueLists T) (queue : ℕ) → KeepsBut lists lists queue
kept_same lists queue = record { others = λ other differs. refl; queue_room = refl; room = refl }
