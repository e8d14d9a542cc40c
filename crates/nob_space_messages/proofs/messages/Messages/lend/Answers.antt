use Rattle.std.proofs.Common.{arith, ap, sym, refl, ◌∙◌}
use Rattle.nob_ids.specs.Names.{is_same}
use Rattle.nob_space_messages.specs.Lines.{IsLined, items_of, lent_entry}
use Rattle.nob_space_messages.proofs.Carried.{granted_carried}
use Rattle.nob_space_messages.proofs.Ended.{awaited_but, ended, lent_open, lined_all}
use Rattle.nob_space_messages.proofs.Granted.{due_other}
use Rattle.nob_space_messages.proofs.Rows.{lent_items}
use Rattle.nob_queues.specs.Queues.{marked_at, room_at, rows_at}
use Rattle.nob_space_messages.proofs.Unmoved.{carried_kept, counted_kept, ready_kept}
use Rattle.nob_space_messages.proofs.messages.Messages.lend.Goals as goal

pub lend_line-lent-requires-clause-lined : goal.lend_line-lent-requires-clause-lined
lend_line-lent-requires-clause-lined c = lined_all c.self.invariant.0 c.args.rep.now (λ due. sym (c.self.invariant.0.awaited c.args.rep.now) ∙ (rw (← c.self.view_is) at c.requires.open) due)

pub invariant_of-self : goal.invariant_of-self
invariant_of-self c =
    let lined : IsLined c.self.inside.waits.lines (rows_at c.self.inside.queues 0) c.args.rep.now = lined_all c.self.invariant.0 c.args.rep.now (λ due. sym (c.self.invariant.0.awaited c.args.rep.now) ∙ (rw (← c.self.view_is) at c.requires.open) due) in (
      ended c.self.invariant.0 (is_same c.args.rep.now) c.clear.new.self c.clear.ensures.counts c.clear.ensures.links c.clear.ensures.awaited (omega (arith, c.clear.ensures.room))
          (λ s e. lent_entry c.args.rep.now e) (rows_at c.lend_line-lent.new.queues 0) (marked_at c.lend_line-lent.new.queues 0) (room_at c.lend_line-lent.new.queues 0) c.lend_line-lent.ensures.rows c.lend_line-lent.ensures.marked c.lend_line-lent.ensures.kept.queue_room
          (lent_open c.self.invariant.0 c.args.rep.now lined) (λ s e r off. due_other c.args.rep.now r e.message off) (λ s e. refl),
      granted_carried c.self.inside.waits.copies c.args.rep.now (items_of (rows_at c.self.inside.queues 0)) (items_of (rows_at c.lend_line-lent.new.queues 0)) c.self.invariant.1 (ap items_of c.lend_line-lent.ensures.rows ∙ lent_items c.args.rep.now (rows_at c.self.inside.queues 0)),
      c.self.invariant.2,
      λ some. let had = c.self.invariant.3 some in omega (arith, had, c.lend_line-lent.ensures.kept.room),
      ready_kept c.self.inside.queues c.lend_line-lent.new.queues c.self.inside.ready.lines.links c.self.inside.ready.lines.lanes c.self.inside.ready.froms c.self.inside.ready.next c.self.inside.ready.room (c.lend_line-lent.ensures.kept.others 1 refl) c.self.invariant.4,
      counted_kept c.self.inside.queues c.lend_line-lent.new.queues c.self.inside.ready.lines.lanes (c.lend_line-lent.ensures.kept.others 2 refl) c.self.invariant.5,
    )

pub returns-clause-items : goal.returns-clause-items
returns-clause-items c = rw (← c.self.view_is) (ap items_of c.lend_line-lent.ensures.rows ∙ lent_items c.args.rep.now (rows_at c.self.inside.queues 0))

pub returns-clause-awaited : goal.returns-clause-awaited
returns-clause-awaited c other = rw (← c.self.view_is) (awaited_but c.self.invariant.0 (is_same c.args.rep.now) c.clear.new.self c.clear.ensures.counts c.clear.ensures.links c.clear.ensures.awaited (omega (arith, c.clear.ensures.room)) other)
