use Rattle.std.proofs.Common.{ap, sym, ◌∙◌}
use Rattle.nob_queues.specs.Queues.{rows_at}
use Rattle.nob_space_messages.specs.Lines.{is_standing, lent_where}
use Rattle.nob_space_messages.proofs.Lent.{lent_none}
use Rattle.nob_space_messages.proofs.lending.lend_unless.Goals as goal

pub returns-in_default-clause-rows : goal.returns-in_default-clause-rows
returns-in_default-clause-rows c = lent_none c.args.rep.now (rows_at c.args.queues.now 0) ∙ ap (λ o. lent_where c.args.rep.now (is_standing o) (rows_at c.args.queues.now 0)) (sym c.in_default.is)
