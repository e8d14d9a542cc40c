use Rattle.std.proofs.Common.{refl, arith, ap, sym, subst, ◌∙◌}
use Rattle.nob_slots.specs.Slots.{item_at, IsAbove, IsRising}
use Rattle.nob_space_messages.specs.Lines.{items_of, stamps_from, AreMarked}
use Rattle.nob_space_messages.proofs.Carried.{fewer_few, removed_carried, some}
use Rattle.nob_space_messages.proofs.Found.{fewer, first_found, first_none, removed_below, removed_found, removed_rising}
use Rattle.nob_space_messages.proofs.Stamps.{marked_removed, stamps_taken}
use Rattle.nob_queues.specs.Queues.{marked_at, room_at, rows_at}
use Rattle.nob_space_messages.proofs.Unmoved.{carried_kept, counted_kept, ready_kept}
use Rattle.nob_space_messages.proofs.messages.Messages.take_settleable.Goals as goal

pub returns-in_err-stamp-clause-message : goal.returns-in_err-stamp-clause-message
returns-in_err-stamp-clause-message c = c.from_residual.ensures ∙ rw (← c.self.view_is) (sym ((first_none c.self.invariant.0 c.in_err-stamp.ensures.first).0))

pub returns-in_err-stamp-clause-items : goal.returns-in_err-stamp-clause-items
returns-in_err-stamp-clause-items c = rw (← c.self.view_is) (sym ((first_none c.self.invariant.0 c.in_err-stamp.ensures.first).1))

pub invariant_of-self-2 : goal.invariant_of-self-2
invariant_of-self-2 c =
    let n = c.in_ok-stamp.stamp in
    let rows = (rows_at c.self.inside.queues 0) in
    let found = sym c.take.ensures.item ∙ c.in_ok-message.was in (
      fewer c.self.invariant.0 (rows_at c.take.new.self 0) (marked_at c.take.new.self 0) (room_at c.take.new.self 0) c.take-2.new.self
          (subst IsRising (sym c.take.ensures.rows) (removed_rising n rows c.self.invariant.0.rising))
          (subst (λ rs. IsAbove rs c.self.inside.waits.next) (sym c.take.ensures.rows) (removed_below n c.self.inside.waits.next rows c.self.invariant.0.above))
          (λ s x found. (removed_found n rows c.self.invariant.0.rising s x (sym (ap (λ rs. item_at rs s) c.take.ensures.rows) ∙ found)).0)
          (subst (λ rs. AreMarked rs (marked_at c.take.new.self 0)) (sym c.take.ensures.rows) (marked_removed n rows (marked_at c.self.inside.queues 0) (marked_at c.take.new.self 0) c.self.invariant.0.rising c.self.invariant.0.marks c.take.ensures.marked))
          (λ peer. stamps_taken c.self.inside.waits.froms c.take-2.new.self rows n c.in_ok-message.field-0 c.self.invariant.0.stamps c.self.invariant.0.rising (sym c.take.ensures.item ∙ c.in_ok-message.was) c.take-2.ensures.numbers peer ∙ ap (stamps_from peer) (sym c.take.ensures.rows))
          c.take.ensures.kept.queue_room c.take-2.ensures.room,
      removed_carried c.self.inside.waits.copies c.as_slice.result.now rows n c.in_ok-message.field-0 c.self.invariant.1 found c.as_slice.ensures c.uncount_all.new.counts (rows_at c.take.new.self 0) c.uncount_all.ensures c.take.ensures.rows,
      fewer_few c.self.inside.waits.copies c.uncount_all.new.counts c.as_slice.result.now c.self.inside.waits.next c.self.invariant.2 c.uncount_all.ensures,
      λ some. let had = c.self.invariant.3 some in omega (arith, had, c.take.ensures.kept.room),
      ready_kept c.self.inside.queues c.take.new.self c.self.inside.ready.lines.links c.self.inside.ready.lines.lanes c.self.inside.ready.froms c.self.inside.ready.next c.self.inside.ready.room (c.take.ensures.kept.others 1 refl) c.self.invariant.4,
      counted_kept c.self.inside.queues c.take.new.self c.self.inside.ready.lines.lanes (c.take.ensures.kept.others 2 refl) c.self.invariant.5,
    )

pub uncount_all-requires : goal.uncount_all-requires
uncount_all-requires c = record {
  some = some c.self.inside.waits.copies c.as_slice.result.now (rows_at c.self.inside.queues 0) c.in_ok-stamp.stamp c.in_ok-message.field-0 c.self.invariant.1 (sym c.take.ensures.item ∙ c.in_ok-message.was) c.as_slice.ensures;
}

pub returns-clause-message : goal.returns-clause-message
returns-clause-message c = rw (← c.self.view_is) (sym ((first_found c.self.invariant.0 c.in_ok-stamp.stamp c.in_ok-message.field-0 c.in_ok-stamp.ensures.first (sym c.take.ensures.item ∙ c.in_ok-message.was)).0))

pub returns-clause-items : goal.returns-clause-items
returns-clause-items c = rw (← c.self.view_is) (ap items_of c.take.ensures.rows ∙ sym ((first_found c.self.invariant.0 c.in_ok-stamp.stamp c.in_ok-message.field-0 c.in_ok-stamp.ensures.first (sym c.take.ensures.item ∙ c.in_ok-message.was)).1))
