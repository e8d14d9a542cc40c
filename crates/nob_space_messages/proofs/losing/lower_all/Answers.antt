use Rattle.std.proofs.Common.{sym, subst, refl, ◌∙◌}
use Rattle.std.specs.Map.{keys_of}
use Rattle.nob_slots.specs.Slots.{IsRising}
use Rattle.nob_space_messages.specs.Lines.{lines_of, lowered_entry, times_in}
use Rattle.nob_space_messages.proofs.Counting.{times_next}
use Rattle.nob_space_messages.proofs.Rows.{changed_rising, lowered_none}
use Rattle.nob_queues.specs.Queues.{KeepsBut, marked_at, rows_at}
use Rattle.nob_queues.proofs.Writes.{kept_same, kept_twice}
use Rattle.nob_space_messages.proofs.losing.lower_all.Goals as goal

pub loop-at-init : goal.loop-at-init
loop-at-init c = (c.requires.rising, c.requires.marked, lowered_none (rows_at c.args.queues.now 0), kept_same c.args.queues.now 0)

pub loop-at-preserved : goal.loop-at-preserved
loop-at-preserved c = (
  subst IsRising (sym c.lower_line.ensures.rows) (changed_rising (λ s e. lowered_entry (times_in c.args.lines.now c.rep_at-rep.result s) e) (rows_at c.loop-at.queues 0) c.loop-at.invariant.0),
  c.lower_line.ensures.marked,
  times_next c.args.lines.now (keys_of (lines_of c.args.lines.now c.args.owner).rows) c.loop-at.at c.rep_at-rep.result (rows_at c.args.queues.now 0) (rows_at c.loop-at.queues 0) (rows_at c.lower_line.new.queues 0) c.rep_at-rep.ensures c.loop-at.invariant.2 c.lower_line.ensures.rows,
  kept_twice c.args.queues.now c.loop-at.queues c.lower_line.new.queues 0 c.loop-at.invariant.3 c.lower_line.ensures.kept,
)
