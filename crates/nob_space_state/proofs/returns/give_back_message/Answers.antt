use Rattle.std.proofs.Common.{sym, subst}
use Rattle.nob_model_history.specs.Holds.{copies_lent, target_lent}
use Rattle.nob_space_state.specs.Returns.{HasLent, GivesBack}
use Rattle.nob_space_state.proofs.Returned.{back_then, first_lent, lent_then}
use Rattle.nob_space_state.proofs.returns.give_back_message.Goals as goal

pub give_back_target-requires : goal.give_back_target-requires
give_back_target-requires c = first_lent c.args.table.now (target_lent c.args.me c.args.message.now.item) (copies_lent c.args.message.now.copies) c.requires

pub give_back_copies-requires : goal.give_back_copies-requires
give_back_copies-requires c = subst (λ copies. HasLent c.give_back_target.new.table (copies_lent copies)) (sym c.as_slice.ensures)
    (lent_then c.args.table.now c.give_back_target.new.table (target_lent c.args.me c.args.message.now.item) (copies_lent c.args.message.now.copies) c.requires c.give_back_target.ensures)

pub returns : goal.returns
returns c = back_then c.args.table.now c.give_back_target.new.table c.give_back_copies.new.table (target_lent c.args.me c.args.message.now.item) (copies_lent c.args.message.now.copies) c.give_back_target.ensures
    (subst (λ copies. GivesBack c.give_back_target.new.table c.give_back_copies.new.table (copies_lent copies)) c.as_slice.ensures c.give_back_copies.ensures)
