use Rattle.std.proofs.Common.{sym, subst, refl, ◌∙◌}
use Rattle.nob_slots.specs.Slots.{IsRising}
use Rattle.nob_space_messages.specs.Lines.{lowered_entry, once}
use Rattle.nob_space_messages.proofs.Counting.{stands_next}
use Rattle.nob_space_messages.proofs.Rows.{changed_rising, lowered_none}
use Rattle.nob_queues.specs.Queues.{KeepsBut, marked_at, rows_at}
use Rattle.nob_queues.proofs.Writes.{kept_same, kept_twice}
use Rattle.nob_space_messages.proofs.losing.lower_line.Goals as goal

pub loop-place-init : goal.loop-place-init
loop-place-init c = (c.requires.rising, c.requires.marked, lowered_none (rows_at c.args.queues.now 0), kept_same c.args.queues.now 0)

pub loop-place-preserved : goal.loop-place-preserved
loop-place-preserved c = (
  subst IsRising (sym c.lower_standing.ensures.rows) (changed_rising (λ s e. lowered_entry (once c.link-standing.result s) e) (rows_at c.loop-place.queues 0) c.loop-place.invariant.0),
  c.lower_standing.ensures.marked,
  stands_next c.args.lines.now c.args.rep.now c.loop-place.place c.link-standing.result (rows_at c.args.queues.now 0) (rows_at c.loop-place.queues 0) (rows_at c.lower_standing.new.queues 0) c.link-standing.ensures c.loop-place.invariant.2 c.lower_standing.ensures.rows,
  kept_twice c.args.queues.now c.loop-place.queues c.lower_standing.new.queues 0 c.loop-place.invariant.3 c.lower_standing.ensures.kept,
)
