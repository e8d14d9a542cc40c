use Rattle.std.proofs.Common.{sym, subst}
use Rattle.nob_space_state.specs.Returns.{GivesBack}
use Rattle.nob_space_state.proofs.Returned.{back_none, no_target}
use Rattle.nob_space_state.proofs.returns.give_back_target.Goals as goal

pub returns-in_default : goal.returns-in_default
returns-in_default c = subst (GivesBack c.args.table.now c.args.table.now) (sym (no_target c.args.me c.args.item.now c.in_default.not-Call)) (back_none c.args.table.now)
