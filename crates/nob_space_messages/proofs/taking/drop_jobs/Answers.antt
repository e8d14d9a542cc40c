use Rattle.std.proofs.Common.{◌≤◌, sym, ap, arith, ◌∙◌}
use Rattle.nob_queues.specs.Queues.{rows_at}
use Rattle.nob_queues.proofs.Writes.{kept_twice}
use Rattle.nob_space_messages.specs.Lines.{without}
use Rattle.nob_space_messages.proofs.taking.drop_jobs.Goals as goal

pub loop-stamp-preserved : goal.loop-stamp-preserved
loop-stamp-preserved c = (
  c.drop_job.ensures.rising,
  c.drop_job.ensures.lines,
  c.drop_job.ensures.targets,
  ap (without c.next.new.self) c.drop_job.ensures.rows ∙ ap (λ ss. without ss (rows_at c.loop-stamp.queues 1)) (sym (c.in-Some.ensures {u = tt}).steps) ∙ c.loop-stamp.invariant.3,
  λ t. c.drop_job.ensures.runs t ∙ c.loop-stamp.invariant.4 t,
  kept_twice c.args.queues.now c.loop-stamp.queues c.drop_job.new.queues 1 c.loop-stamp.invariant.5 c.drop_job.ensures.kept,
  c.drop_job.ensures.links_room ∙ c.loop-stamp.invariant.6,
  omega (arith, c.drop_job.ensures.lanes_room, c.loop-stamp.invariant.7),
)
