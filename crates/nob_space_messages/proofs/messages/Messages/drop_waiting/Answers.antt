use Rattle.std.proofs.Common.{refl, arith, ◌≡◌, ap, sym, subst, ◌∙◌}
use Rattle.nob_model_types.specs.Messages.{is_not_from}
use Rattle.nob_slots.specs.Slots.{item_at, IsAbove, IsRising}
use Rattle.nob_space_messages.specs.Lines.{items_of, stamps_from, without}
use Rattle.nob_space_messages.proofs.Carried.{kept_few}
use Rattle.nob_space_messages.proofs.Found.{fewer, kept, kept_below, kept_found, kept_items, kept_rising}
use Rattle.nob_space_messages.proofs.Stamps.{stamps_dropped, without_from}
use Rattle.nob_queues.specs.Queues.{marked_at, room_at, rows_at}
use Rattle.nob_space_messages.proofs.Unmoved.{carried_kept, counted_kept, ready_kept}
use Rattle.nob_space_messages.proofs.messages.Messages.drop_waiting.Goals as goal

-- the entries that are left
rows_kept : (c : goal.After-clear) → (rows_at c.drop_all.new.queues 0) ≡ kept (is_not_from c.args.peer) (rows_at c.self.inside.queues 0)
rows_kept c = c.drop_all.ensures.rows ∙ ap (λ ss. without ss (rows_at c.self.inside.queues 0)) (c.self.invariant.0.stamps c.args.peer) ∙ without_from c.args.peer (rows_at c.self.inside.queues 0) c.self.invariant.0.rising

pub invariant_of-self : goal.invariant_of-self
invariant_of-self c =
    let keeps = is_not_from c.args.peer in
    let rows = (rows_at c.self.inside.queues 0) in (
      fewer c.self.invariant.0 (rows_at c.drop_all.new.queues 0) (marked_at c.drop_all.new.queues 0) (room_at c.drop_all.new.queues 0) c.clear.new.self
          (subst IsRising (sym (rows_kept c)) (kept_rising keeps rows c.self.invariant.0.rising))
          (subst (λ rs. IsAbove rs c.self.inside.waits.next) (sym (rows_kept c)) (kept_below keeps c.self.inside.waits.next rows c.self.invariant.0.above))
          (λ s x found. kept_found keeps rows c.self.invariant.0.rising s x (sym (ap (λ rs. item_at rs s) (rows_kept c)) ∙ found))
          c.drop_all.ensures.marked
          (λ peer. stamps_dropped c.self.inside.waits.froms c.clear.new.self rows c.args.peer c.self.invariant.0.stamps c.clear.ensures.numbers peer ∙ ap (stamps_from peer) (sym (rows_kept c)))
          c.drop_all.ensures.kept.queue_room c.clear.ensures.room,
      c.drop_all.ensures.carried,
      kept_few c.self.inside.waits.copies c.drop_all.new.counts keeps (items_of rows) (items_of (rows_at c.drop_all.new.queues 0)) c.self.inside.waits.next c.self.invariant.1 c.drop_all.ensures.carried (ap items_of (rows_kept c) ∙ kept_items keeps rows) c.self.invariant.2,
      λ some. let had = c.self.invariant.3 some in omega (arith, had, c.drop_all.ensures.kept.room),
      ready_kept c.self.inside.queues c.drop_all.new.queues c.self.inside.ready.lines.links c.self.inside.ready.lines.lanes c.self.inside.ready.froms c.self.inside.ready.next c.self.inside.ready.room (c.drop_all.ensures.kept.others 1 refl) c.self.invariant.4,
      counted_kept c.self.inside.queues c.drop_all.new.queues c.self.inside.ready.lines.lanes (c.drop_all.ensures.kept.others 2 refl) c.self.invariant.5,
    )

pub returns-clause-items : goal.returns-clause-items
returns-clause-items c = rw (← c.self.view_is) (ap items_of (rows_kept c) ∙ kept_items (is_not_from c.args.peer) (rows_at c.self.inside.queues 0))
