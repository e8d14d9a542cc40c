use Rattle.std.proofs.Common.{List, [], ◌∷◌, ◌++◌, ◌-◌, length, take, drop, sym, ap, ◌∙◌}
use Rattle.nob_model_types.proofs.Lists.{rest_is, first_and_rest}
use Rattle.nob_model_work.specs.declared.gifts.Gift.{Gift}
use Rattle.nob_model_history.specs.Transit.{next_sent, with_gifts}
use Rattle.nob_model_history.specs.declared.transit.SentItem.{SentItem}
use Rattle.nob_check_ledgers.proofs.ledger.+with_gifts.Goals as goal

pub returns-in_ok-all-in-len1-up : goal.returns-in_ok-all-in-len1-up
returns-in_ok-all-in-len1-up t c =
    let D = c.args.past.now.deeds in
    let gifts : List Gift = c.args.gifts.now in
    let gift : Gift = c.gift-item.result in
    let before : List SentItem = c.args.sent_items in
    c.in_ok-all-in-len1-up.ensures
    ∙ ap (λ (more : List SentItem). with_gifts D more (take (length gifts - 1) (drop 1 gifts))) c.in_ok-more-in-len1-up.ensures
    ∙ ap (with_gifts D (before ++ next_sent D before gift ∷ [])) (rest_is gifts)
    ∙ ap (with_gifts D before) (sym (first_and_rest gifts gift c.in-len1-up.len_at_least c.gift-item.is))
