use Rattle.std.proofs.Common.{sym, subst}
use Rattle.nob_queues.specs.Queues.{rows_at}
use Rattle.nob_queues.proofs.Found.{removed_rising}
use Rattle.nob_slots.specs.Slots.{IsRising}
use Rattle.nob_space_messages.specs.Rows.{SameTargets}
use Rattle.nob_space_messages.proofs.Beside.{taken_targets}
use Rattle.nob_space_messages.proofs.taking.drop_job.Goals as goal

pub returns-clause-rising : goal.returns-clause-rising
returns-clause-rising c = subst IsRising (sym c.take-entry.ensures.rows) (removed_rising c.args.stamp (rows_at c.args.queues.now 1) c.requires.rising)

pub returns-clause-targets : goal.returns-clause-targets
returns-clause-targets c =
    subst (SameTargets c.take.new.self.links.rows) (sym c.take-entry.ensures.rows) (taken_targets c.args.lines.now.links.rows c.take.new.self.links.rows (rows_at c.args.queues.now 1) c.requires.targets c.args.stamp c.requires.rising c.take.ensures.targets)
