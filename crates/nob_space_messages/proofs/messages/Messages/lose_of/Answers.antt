use Rattle.std.proofs.Common.{arith, ◌==◌, ap, refl, ◌∙◌}
use Rattle.std.specs.Map.{keys_of}
use Rattle.nob_space_messages.specs.Lines.{items_of, lines_of, lowered_entry, times_of}
use Rattle.nob_space_messages.proofs.Carried.{same_carried}
use Rattle.nob_space_messages.proofs.Ended.{awaited_but, ended}
use Rattle.nob_space_messages.proofs.Split.{owner_open}
use Rattle.nob_space_messages.proofs.Rows.{changed_items}
use Rattle.nob_queues.specs.Queues.{marked_at, room_at, rows_at}
use Rattle.nob_space_messages.proofs.Unmoved.{carried_kept, counted_kept, ready_kept}
use Rattle.nob_space_messages.proofs.messages.Messages.lose_of.Goals as goal

pub invariant_of-self : goal.invariant_of-self
invariant_of-self c =
    let reps = keys_of (lines_of c.self.inside.waits.lines c.args.owner).rows in (
      ended c.self.invariant.0 (λ r. r.owner == c.args.owner) c.clear_of.new.self c.clear_of.ensures.counts c.clear_of.ensures.links c.clear_of.ensures.awaited (omega (arith, c.clear_of.ensures.room))
          (λ s e. lowered_entry (times_of c.self.inside.waits.lines reps s) e) (rows_at c.lower_all.new.queues 0) (marked_at c.lower_all.new.queues 0) (room_at c.lower_all.new.queues 0) c.lower_all.ensures.rows c.lower_all.ensures.marked c.lower_all.ensures.kept.queue_room
          (owner_open c.self.invariant.0 c.args.owner reps c.lower_all.ensures.once c.lower_all.ensures.reps) (λ s e r off. refl) (λ s e. refl),
      same_carried c.self.inside.waits.copies (items_of (rows_at c.self.inside.queues 0)) (items_of (rows_at c.lower_all.new.queues 0)) c.self.invariant.1 (ap items_of c.lower_all.ensures.rows ∙ changed_items (λ s e. lowered_entry (times_of c.self.inside.waits.lines reps s) e) (rows_at c.self.inside.queues 0) (λ s e. refl)),
      c.self.invariant.2,
      (λ some. let had = c.self.invariant.3 some in omega (arith, had, c.lower_all.ensures.kept.room)),
      ready_kept c.self.inside.queues c.lower_all.new.queues c.self.inside.ready.lines.links c.self.inside.ready.lines.lanes c.self.inside.ready.froms c.self.inside.ready.next c.self.inside.ready.room (c.lower_all.ensures.kept.others 1 refl) c.self.invariant.4,
      counted_kept c.self.inside.queues c.lower_all.new.queues c.self.inside.ready.lines.lanes (c.lower_all.ensures.kept.others 2 refl) c.self.invariant.5,
    )

pub returns-clause-items : goal.returns-clause-items
returns-clause-items c =
    let reps = keys_of (lines_of c.self.inside.waits.lines c.args.owner).rows in
    rw (← c.self.view_is) (ap items_of c.lower_all.ensures.rows ∙ changed_items (λ s e. lowered_entry (times_of c.self.inside.waits.lines reps s) e) (rows_at c.self.inside.queues 0) (λ s e. refl))

pub returns-clause-awaited : goal.returns-clause-awaited
returns-clause-awaited c other = rw (← c.self.view_is) (awaited_but c.self.invariant.0 (λ r. r.owner == c.args.owner) c.clear_of.new.self c.clear_of.ensures.counts c.clear_of.ensures.links c.clear_of.ensures.awaited (omega (arith, c.clear_of.ensures.room)) other)
