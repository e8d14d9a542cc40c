use Rattle.std.proofs.Common.{◌≡◌, Bool, IfOk, subst}
use Rattle.nob_check.specs.Books.{sent_by}
use Rattle.nob_check.specs.Checks.{is_in_order_by}
use Rattle.nob_check.proofs.fronts.is_all_in_order.Goals as goal

pub returns : goal.returns
returns c =
    subst (λ (all : Bool). IfOk c.are_in_order.result (λ answer. answer ≡ all))
    (c.sessions.ensures.all (is_in_order_by (sent_by c.args.books.now) c.args.ledger.now))
    c.are_in_order.ensures
