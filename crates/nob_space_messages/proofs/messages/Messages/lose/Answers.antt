use Rattle.std.proofs.Common.{arith, ap, refl, ◌∙◌}
use Rattle.nob_ids.specs.Names.{is_same}
use Rattle.nob_space_messages.specs.Lines.{items_of, lowered_entry, times_in}
use Rattle.nob_space_messages.proofs.Carried.{same_carried}
use Rattle.nob_space_messages.proofs.Ended.{awaited_but, ended, lowered_open}
use Rattle.nob_space_messages.proofs.Rows.{changed_items}
use Rattle.nob_queues.specs.Queues.{marked_at, room_at, rows_at}
use Rattle.nob_space_messages.proofs.Unmoved.{carried_kept, counted_kept, ready_kept}
use Rattle.nob_space_messages.proofs.messages.Messages.lose.Goals as goal

pub invariant_of-self : goal.invariant_of-self
invariant_of-self c = (
  ended c.self.invariant.0 (is_same c.args.rep.now) c.clear.new.self c.clear.ensures.counts c.clear.ensures.links c.clear.ensures.awaited (omega (arith, c.clear.ensures.room))
      (λ s e. lowered_entry (times_in c.self.inside.waits.lines c.args.rep.now s) e) (rows_at c.lower_line.new.queues 0) (marked_at c.lower_line.new.queues 0) (room_at c.lower_line.new.queues 0) c.lower_line.ensures.rows c.lower_line.ensures.marked c.lower_line.ensures.kept.queue_room
      (lowered_open c.self.invariant.0 c.args.rep.now) (λ s e r off. refl) (λ s e. refl),
  same_carried c.self.inside.waits.copies (items_of (rows_at c.self.inside.queues 0)) (items_of (rows_at c.lower_line.new.queues 0)) c.self.invariant.1 (ap items_of c.lower_line.ensures.rows ∙ changed_items (λ s e. lowered_entry (times_in c.self.inside.waits.lines c.args.rep.now s) e) (rows_at c.self.inside.queues 0) (λ s e. refl)),
  c.self.invariant.2,
  λ some. let had = c.self.invariant.3 some in omega (arith, had, c.lower_line.ensures.kept.room),
  ready_kept c.self.inside.queues c.lower_line.new.queues c.self.inside.ready.lines.links c.self.inside.ready.lines.lanes c.self.inside.ready.froms c.self.inside.ready.next c.self.inside.ready.room (c.lower_line.ensures.kept.others 1 refl) c.self.invariant.4,
  counted_kept c.self.inside.queues c.lower_line.new.queues c.self.inside.ready.lines.lanes (c.lower_line.ensures.kept.others 2 refl) c.self.invariant.5,
)

pub returns-clause-items : goal.returns-clause-items
returns-clause-items c = rw (← c.self.view_is) (ap items_of c.lower_line.ensures.rows ∙ changed_items (λ s e. lowered_entry (times_in c.self.inside.waits.lines c.args.rep.now s) e) (rows_at c.self.inside.queues 0) (λ s e. refl))

pub returns-clause-awaited : goal.returns-clause-awaited
returns-clause-awaited c other = rw (← c.self.view_is) (awaited_but c.self.invariant.0 (is_same c.args.rep.now) c.clear.new.self c.clear.ensures.counts c.clear.ensures.links c.clear.ensures.awaited (omega (arith, c.clear.ensures.room)) other)
