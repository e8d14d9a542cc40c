use Rattle.std.proofs.Common.{ap, sym, subst, ◌∙◌}
use Rattle.nob_slots.specs.Slots.{IsRising}
use Rattle.nob_space_messages.specs.Lines.{AreMarked, without}
use Rattle.nob_space_messages.proofs.Found.{removed_rising}
use Rattle.nob_space_messages.proofs.Stamps.{marked_removed}
use Rattle.nob_queues.specs.Queues.{KeepsBut, marked_at, rows_at}
use Rattle.nob_queues.proofs.Writes.{kept_twice}
use Rattle.nob_space_messages.proofs.waits.drop_all.Goals as goal

pub loop-stamp-preserved : goal.loop-stamp-preserved
loop-stamp-preserved c = (
  subst IsRising (sym c.drop_one.ensures.rows) (removed_rising c.in-Some.stamp (rows_at c.loop-stamp.queues 0) c.loop-stamp.invariant.0),
  subst (λ rs. AreMarked rs (marked_at c.drop_one.new.queues 0)) (sym c.drop_one.ensures.rows) (marked_removed c.in-Some.stamp (rows_at c.loop-stamp.queues 0) (marked_at c.loop-stamp.queues 0) (marked_at c.drop_one.new.queues 0) c.loop-stamp.invariant.0 c.loop-stamp.invariant.1 c.drop_one.ensures.marked),
  ap (without c.next.new.self) c.drop_one.ensures.rows ∙ ap (λ ss. without ss (rows_at c.loop-stamp.queues 0)) (sym (c.in-Some.ensures {u = tt}).steps) ∙ c.loop-stamp.invariant.2,
  kept_twice c.args.queues.now c.loop-stamp.queues c.drop_one.new.queues 0 c.loop-stamp.invariant.3 c.drop_one.ensures.kept,
  c.drop_one.ensures.carried,
)
