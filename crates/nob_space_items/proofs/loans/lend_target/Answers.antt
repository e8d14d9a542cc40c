use Rattle.std.proofs.Common.{sym, subst}
use Rattle.nob_space_state.proofs.Returned.{no_target}
use Rattle.nob_space_items.specs.Lending.{Lends}
use Rattle.nob_space_items.proofs.Lends.{lends_none}
use Rattle.nob_space_items.proofs.loans.lend_target.Goals as goal

pub returns-in_default : goal.returns-in_default
returns-in_default c = subst (Lends c.args.table.now c.args.table.now) (sym (no_target c.args.me c.args.item.now c.in_default.not-Call)) (lends_none c.args.table.now)
