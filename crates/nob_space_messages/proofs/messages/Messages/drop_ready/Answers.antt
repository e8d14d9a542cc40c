use Rattle.std.proofs.Common.{◌≡◌, ap, sym, subst, refl, arith, ◌∙◌}
use Rattle.nob_model_types.specs.Messages.{is_not_from}
use Rattle.nob_queues.specs.Queues.{rows_at}
use Rattle.nob_space_messages.specs.Lines.{items_of, without}
use Rattle.nob_space_messages.specs.Rows.{newest_first}
use Rattle.nob_space_messages.proofs.Found.{kept, kept_items}
use Rattle.nob_space_messages.proofs.Jobs.{counted_same, ready_dropped}
use Rattle.nob_space_messages.proofs.Stamps.{without_from}
use Rattle.nob_space_messages.proofs.Unmoved.{carried_kept, counted_kept, waiting_kept}
use Rattle.nob_space_messages.proofs.messages.Messages.drop_ready.Goals as goal

-- the ready ones that are left
rows_kept : (c : goal.After-clear) → rows_at c.drop_jobs.new.queues 1 ≡ kept (is_not_from c.args.peer) (rows_at c.self.inside.queues 1)
rows_kept c = c.drop_jobs.ensures.rows ∙ ap (λ ss. without ss (rows_at c.self.inside.queues 1)) (c.self.invariant.4.froms c.args.peer) ∙ without_from c.args.peer (rows_at c.self.inside.queues 1) c.self.invariant.4.rising

pub invariant_of-self : goal.invariant_of-self
invariant_of-self c =
    let queues = c.self.inside.queues in
    let new = c.drop_jobs.new.queues in
    let others = c.drop_jobs.ensures.kept.others in (
      waiting_kept queues new c.self.inside.waits.froms c.self.inside.waits.lines c.self.inside.waits.next c.self.inside.waits.room (others 0 refl) c.self.invariant.0,
      carried_kept queues new c.self.inside.waits.copies (others 0 refl) c.self.invariant.1,
      c.self.invariant.2,
      (λ some. let had = c.self.invariant.3 some in omega (arith, had, c.drop_jobs.ensures.kept.room)),
      ready_dropped c.self.invariant.4 c.args.peer (rows_at new 1) _ c.drop_jobs.new.lines.links c.drop_jobs.new.lines.lanes c.clear.new.self (rows_kept c) c.drop_jobs.ensures.targets c.drop_jobs.ensures.lines c.clear.ensures.numbers c.drop_jobs.ensures.kept.queue_room c.drop_jobs.ensures.links_room c.drop_jobs.ensures.lanes_room c.clear.ensures.room,
      counted_kept queues new c.drop_jobs.new.lines.lanes (others 2 refl) (counted_same c.self.inside.ready.lines.lanes c.drop_jobs.new.lines.lanes (rows_at queues 2) c.self.invariant.5 c.drop_jobs.ensures.runs),
    )

pub returns-clause-ready : goal.returns-clause-ready
returns-clause-ready c = rw (← c.self.view_is) (ap items_of (rows_kept c) ∙ kept_items (is_not_from c.args.peer) (rows_at c.self.inside.queues 1))
