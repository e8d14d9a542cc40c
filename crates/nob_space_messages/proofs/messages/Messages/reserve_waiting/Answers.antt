use Rattle.std.proofs.Common.{◌≡◌, ◌<◌, ◌+◌, ℕ, List, slice_get, refl, sym, ap, subst, arith, ◌∙◌}
use Rattle.nob_queues.specs.Queues.{marked_at, queue_at, queue_or_none, room_at, rows_at}
use Rattle.nob_slots.specs.Slots.{SlotList}
use Rattle.nob_space_messages.specs.declared.entry.Entry.{Entry}
use Rattle.nob_space_messages.specs.Copies.{AreCarried}
use Rattle.nob_space_messages.specs.Lines.{AreWaiting, items_of}
use Rattle.nob_space_messages.proofs.Ended.{widened}
use Rattle.nob_space_messages.proofs.Unmoved.{counted_kept, ready_kept}
use Rattle.nob_space_messages.proofs.messages.Messages.reserve_waiting.Goals as goal

pub invariant_of-self-in_err-reserve-3 : goal.invariant_of-self-in_err-reserve-3
invariant_of-self-in_err-reserve-3 c =
    let old = c.self.inside.queues in
    let new = c.widen.new.self in
    let same : (p : ℕ) → queue_at c.reserve.new.self p ≡ queue_at old p = λ p. ap (λ (qs : List (SlotList Entry)). queue_or_none (slice_get qs p)) c.reserve.ensures.queues in
    let rows : rows_at new 0 ≡ rows_at old 0 = c.widen.ensures.rows ∙ ap (λ (q : SlotList Entry). q.rows) (same 0) in
    let marked : marked_at new 0 ≡ marked_at old 0 = c.widen.ensures.marked ∙ ap (λ (q : SlotList Entry). q.marked) (same 0) in
    let more = ap (λ (q : SlotList Entry). q.room) (same 0) in
    let are = widened c.self.invariant.0 c.reserve-3.new.self c.reserve-3.ensures.lines c.reserve-3.ensures.reps c.reserve-3.ensures.room (room_at new 0) c.self.inside.waits.room c.reserve-2.new.self c.reserve-2.ensures.numbers
    (λ some. omega (arith, c.self.invariant.0.entry_room some, c.widen.ensures.queue_room, more)) (λ some. omega (arith, c.self.invariant.0.stamp_room some, c.reserve-2.ensures.room)) (omega (arith, c.self.invariant.0.line_room, c.reserve-3.ensures.room)) c.self.invariant.0.small in (
      rw (rows, marked) are,
      rw rows c.self.invariant.1,
      c.self.invariant.2,
      (λ some. let had = c.self.invariant.3 some in omega (arith, had, c.reserve.ensures.room, c.widen.ensures.room)),
      ready_kept old new c.self.inside.ready.lines.links c.self.inside.ready.lines.lanes c.self.inside.ready.froms c.self.inside.ready.next c.self.inside.ready.room (c.widen.ensures.others 1 refl ∙ same 1) c.self.invariant.4,
      counted_kept old new c.self.inside.ready.lines.lanes (c.widen.ensures.others 2 refl ∙ same 2) c.self.invariant.5,
    )

pub invariant_of-self-2 : goal.invariant_of-self-2
invariant_of-self-2 c =
    let old = c.self.inside.queues in
    let new = c.widen.new.self in
    let same : (p : ℕ) → queue_at c.reserve.new.self p ≡ queue_at old p = λ p. ap (λ (qs : List (SlotList Entry)). queue_or_none (slice_get qs p)) c.reserve.ensures.queues in
    let rows : rows_at new 0 ≡ rows_at old 0 = c.widen.ensures.rows ∙ ap (λ (q : SlotList Entry). q.rows) (same 0) in
    let marked : marked_at new 0 ≡ marked_at old 0 = c.widen.ensures.marked ∙ ap (λ (q : SlotList Entry). q.marked) (same 0) in
    let are = widened c.self.invariant.0 c.reserve-3.new.self c.reserve-3.ensures.lines c.reserve-3.ensures.reps c.reserve-3.ensures.room (room_at new 0) (c.args.copies + 1) c.reserve-2.new.self c.reserve-2.ensures.numbers
    (λ some. omega (arith, c.in_ok-widen.ensures.ok)) (λ some. omega (arith, c.in_ok-reserve-2.ensures.ok)) (omega (arith, c.in_ok-reserve-3.ensures.ok)) (omega (arith, c.if-self-gt-MOST.false, c.if-copies-ge-MOST.false)) in (
      rw (rows, marked) are,
      rw rows c.self.invariant.1,
      c.self.invariant.2,
      (λ some. omega (arith, c.in_ok-reserve.ensures.ok, c.widen.ensures.room)),
      ready_kept old new c.self.inside.ready.lines.links c.self.inside.ready.lines.lanes c.self.inside.ready.froms c.self.inside.ready.next c.self.inside.ready.room (c.widen.ensures.others 1 refl ∙ same 1) c.self.invariant.4,
      counted_kept old new c.self.inside.ready.lines.lanes (c.widen.ensures.others 2 refl ∙ same 2) c.self.invariant.5,
    )
