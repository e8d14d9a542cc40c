use Rattle.std.proofs.Common.{ap, sym, ◌∙◌}
use Rattle.nob_queues.specs.Queues.{rows_at}
use Rattle.nob_space_messages.specs.Lines.{lowered, once}
use Rattle.nob_space_messages.proofs.Rows.{lowered_none}
use Rattle.nob_space_messages.proofs.losing.lower_standing.Goals as goal

pub returns-in_default-clause-rows : goal.returns-in_default-clause-rows
returns-in_default-clause-rows c = lowered_none (rows_at c.args.queues.now 0) ∙ ap (λ o. lowered (once o) (rows_at c.args.queues.now 0)) (sym c.in_default.is)

pub returns-clause-rows : goal.returns-clause-rows
returns-clause-rows c = c.lower_at.ensures.rows ∙ ap (λ o. lowered (once o) (rows_at c.args.queues.now 0)) (sym c.in-Some.is)
