use Rattle.std.proofs.Common.{sym, subst}
use Rattle.nob_model_history.specs.Holds.{copies_lent, target_lent}
use Rattle.nob_space_items.specs.Lending.{CanLend, Lends}
use Rattle.nob_space_items.proofs.Lends.{first_lendable, then_lendable, lends_then}
use Rattle.nob_space_items.proofs.loans.lend_message.Goals as goal

pub lend_target-requires : goal.lend_target-requires
lend_target-requires c = first_lendable c.args.table.now (target_lent c.args.me c.args.message.now.item) (copies_lent c.args.message.now.copies) c.requires

pub lend_copies-requires : goal.lend_copies-requires
lend_copies-requires c = subst (λ copies. CanLend c.lend_target.new.table (copies_lent copies)) (sym c.as_slice.ensures)
    (then_lendable c.args.table.now c.lend_target.new.table (target_lent c.args.me c.args.message.now.item) (copies_lent c.args.message.now.copies) c.requires c.lend_target.ensures)

pub returns : goal.returns
returns c = lends_then c.args.table.now c.lend_target.new.table c.lend_copies.new.table (target_lent c.args.me c.args.message.now.item) (copies_lent c.args.message.now.copies) c.lend_target.ensures
    (subst (λ copies. Lends c.lend_target.new.table c.lend_copies.new.table (copies_lent copies)) c.as_slice.ensures c.lend_copies.ensures)
