-- What is said of one queue holds while that queue is as it was.
use Rattle.std.proofs.Common.{◌≡◌, ℕ, ◌<◌, List, subst, sym, ap, arith}
use Rattle.nob_queues.specs.Queues.{QueueLists, marked_at, queue_at, room_at, rows_at}
use Rattle.nob_slots.specs.Numbers.{NumberLists}
use Rattle.nob_slots.specs.Slots.{SlotList}
use Rattle.nob_space_messages.specs.declared.entry.Entry.{Entry}
use Rattle.nob_space_messages.specs.declared.links.Link.{Link}
use Rattle.nob_space_messages.specs.Copies.{AreCarried}
use Rattle.nob_space_messages.specs.Lanes.{LaneList}
use Rattle.nob_space_messages.specs.Lines.{AreWaiting, LineList, items_of}
use Rattle.nob_space_messages.specs.Rows.{AreCounted, AreReady, newest_first}

module _ (old new : QueueLists Entry) where
  pub waiting_kept : (froms : NumberLists) (lines : LineList) (next room : ℕ) → queue_at new 0 ≡ queue_at old 0 → AreWaiting (rows_at old 0) (marked_at old 0) (room_at old 0) froms lines next room → AreWaiting (rows_at new 0) (marked_at new 0) (room_at new 0) froms lines next room
  waiting_kept froms lines next room same are = subst (λ (q : SlotList Entry). AreWaiting q.rows q.marked q.room froms lines next room) (sym same) are

  pub carried_kept : (counts : List ℕ) → queue_at new 0 ≡ queue_at old 0 → AreCarried counts (items_of (rows_at old 0)) → AreCarried counts (items_of (rows_at new 0))
  carried_kept counts same are = subst (λ (q : SlotList Entry). AreCarried counts (items_of q.rows)) (sym same) are

  pub ready_kept : (links : SlotList Link) (lanes : LaneList) (spaces : NumberLists) (next room : ℕ) → queue_at new 1 ≡ queue_at old 1 → AreReady (rows_at old 1) (room_at old 1) links lanes spaces next room → AreReady (rows_at new 1) (room_at new 1) links lanes spaces next room
  ready_kept links lanes spaces next room same are = subst (λ (q : SlotList Entry). AreReady q.rows q.room links lanes spaces next room) (sym same) are

  pub counted_kept : (lanes : LaneList) → queue_at new 2 ≡ queue_at old 2 → AreCounted lanes (newest_first (rows_at old 2)) → AreCounted lanes (newest_first (rows_at new 2))
  counted_kept lanes same are = subst (λ (q : SlotList Entry). AreCounted lanes (newest_first q.rows)) (sym same) are

-- with no room for more that wait
pub roomless : {rows : List (ℕ × Entry)} {marked : List ℕ} {entries next room : ℕ} {froms : NumberLists} {lines : LineList} → AreWaiting rows marked entries froms lines next room → AreWaiting rows marked entries froms lines next 0
roomless are = record {
  rising = are.rising;
  above = are.above;
  marks = are.marks;
  stamps = are.stamps;
  waits = are.waits;
  lined = are.lined;
  awaited = are.awaited;
  fresh = are.fresh;
  few = are.few;
  entry_room = λ some. absurd (omega (arith, some));
  stamp_room = λ some. absurd (omega (arith, some));
  line_room = omega arith;
  small = (let small = are.small in omega (arith, small));
}
