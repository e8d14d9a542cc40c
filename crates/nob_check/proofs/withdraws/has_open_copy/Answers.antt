use Rattle.std.proofs.Common.{◌∙◌}
use Rattle.nob_check.specs.Books.{did_by}
use Rattle.nob_check.specs.Checks.{is_open_place_by}
use Rattle.nob_check.proofs.Opening.{open_copies}
use Rattle.nob_check.proofs.withdraws.has_open_copy.Goals as goal

pub returns : goal.returns
returns c =
    c.is_any_open.ensures
    ∙ c.places.ensures (is_open_place_by (did_by c.args.books.now) c.args.rep.now c.args.ledger.now)
    ∙ open_copies (did_by c.args.books.now) c.args.rep.now c.args.ledger.now c.args.ledger.now.sent_items
