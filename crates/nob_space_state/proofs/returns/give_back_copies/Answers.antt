use Rattle.std.proofs.Common.{◌∷◌, [], true, false, sym, subst, ◌∙◌}
use Rattle.nob_model_history.specs.Holds.{copies_lent}
use Rattle.nob_space_state.specs.Returns.{HasLent, GivesBack}
use Rattle.nob_space_state.proofs.Returned.{back_none, copies_both, copy_lends, here_lent, one_lent, walk_more}
use Rattle.nob_space_state.proofs.returns.give_back_copies.Goals as goal
use Rattle.nob_space_state.proofs.returns.give_back_copies.Goals.{then-is_lent, else-is_lent}

pub give_back-requires : goal.give_back-requires
give_back-requires c =
    one_lent c.loop-copy.table c.copy-item.result.rep
    (subst (HasLent c.loop-copy.table) (copy_lends c.copy-item.result true (sym c.is_lent.ensures ∙ c.if-is_lent.true))
    (here_lent copies_lent copies_both c.args.copies.now c.loop-copy.copy-index c.copy-item.result c.loop-copy-test.true c.copy-item.is c.args.table.now c.loop-copy.table c.requires c.loop-copy.invariant))

pub loop-copy-preserved : goal.loop-copy-preserved
loop-copy-preserved c =
    walk_more copies_lent copies_both c.args.copies.now c.loop-copy.copy-index c.copy-item.result c.loop-copy-test.true c.copy-item.is c.args.table.now c.loop-copy.table c.if-is_lent.table c.loop-copy.invariant
    (elim c.if-is_lent.branch [
      | then-is_lent w ↦ subst (GivesBack c.loop-copy.table c.if-is_lent.table) (sym (copy_lends c.copy-item.result true (sym c.is_lent.ensures ∙ w.if-is_lent.true))) (subst (λ t. GivesBack c.loop-copy.table t (c.copy-item.result.rep ∷ [])) (sym w.table-is) w.give_back.ensures)
      | else-is_lent w ↦ subst (GivesBack c.loop-copy.table c.if-is_lent.table) (sym (copy_lends c.copy-item.result false (sym c.is_lent.ensures ∙ w.if-is_lent.false))) (subst (λ t. GivesBack c.loop-copy.table t []) (sym w.table-is) (back_none c.loop-copy.table))
    ])
