use Rattle.std.proofs.Common.{◌≡◌, List, ap, slice_get, find, ◌∙◌}
use Rattle.std.specs.Prelude.{option_and_then}
use Rattle.nob_model_history.specs.declared.transit.SentItem.{SentItem}
use Rattle.nob_check_ledgers.specs.Sent.{is_item, first_place}
use Rattle.nob_check_ledgers.proofs.Sending.{find_first}
use Rattle.nob_check_ledgers.proofs.sent.SentItems.item.Goals as goal

pub returns : goal.returns
returns c =
    let items : List SentItem = c.self.inside.sent_items.items in
    let test = is_item c.args.to c.args.session c.args.number in
    c.item_at.ensures
    ∙ ap (λ (xs : List SentItem). option_and_then (slice_get xs) c.place-place.result) c.as_slice.ensures.value
    ∙ ap (option_and_then (slice_get items)) (c.place-place.ensures ∙ c.self.invariant.stand c.args.to c.args.session c.args.number)
    ∙ find_first test items
    ∙ ap (find test) c.self.view_is
