use Rattle.std.proofs.Common.{◌≡◌, ◌-◌, List, [], ◌∷◌, ◌++◌, length, take, drop, sym, ap, subst, ◌∙◌}
use Rattle.nob_model_types.specs.declared.message.RefCopy.{RefCopy}
use Rattle.nob_model_history.specs.Holds.{copies_lent}
use Rattle.nob_space_state.proofs.Returned.{copies_both}
use Rattle.nob_model_types.proofs.Lists.{first_and_rest, rest_is}
use Rattle.nob_space_items.specs.Lending.{Lends}
use Rattle.nob_space_items.proofs.Lends.{lends_then}
use Rattle.nob_space_items.proofs.loans.+lend_copies.Goals as goal

pub returns-in-len1-up : goal.returns-in-len1-up
returns-in-len1-up t c =
    let others : List RefCopy = take (length c.args.copies.now - 1) (drop 1 c.args.copies.now) in
    let split : copies_lent c.args.copies.now ≡ copies_lent (c.copy-item.result ∷ []) ++ copies_lent others = ap copies_lent (first_and_rest c.args.copies.now c.copy-item.result c.in-len1-up.len_at_least c.copy-item.is ∙ ap (λ (rest : List RefCopy). c.copy-item.result ∷ rest) (sym (rest_is c.args.copies.now))) ∙ copies_both (c.copy-item.result ∷ []) others in
    subst (Lends c.args.table.now c.lend_copies.new.table) (sym split) (lends_then c.args.table.now c.lend_copy.new.table c.lend_copies.new.table (copies_lent (c.copy-item.result ∷ [])) (copies_lent others) c.lend_copy.ensures c.lend_copies.ensures)
