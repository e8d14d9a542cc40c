use Rattle.std.proofs.Common.{rules, true, sym, subst, ◌∙◌}
use Rattle.nob_space_state.proofs.Returned.{copy_lends}
use Rattle.nob_space_items.specs.Lending.{CanLend, Lends}
use Rattle.nob_space_items.proofs.loans.lend_copy.Goals as goal

pub lend-requires : goal.lend-requires
lend-requires c = subst (CanLend c.args.table.now) (copy_lends c.args.copy.now true (sym c.is_lent.ensures ∙ search rules)) c.requires

pub returns : goal.returns
returns c = subst (Lends c.args.table.now c.lend.new.table) (sym (copy_lends c.args.copy.now true (sym c.is_lent.ensures ∙ search rules))) c.lend.ensures
