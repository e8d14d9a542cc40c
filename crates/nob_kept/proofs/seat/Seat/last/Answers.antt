use Rattle.std.proofs.Common.{◌≡◌, List, Some, None, MatchOption, reverse, subst}
use Rattle.nob_kept.specs.declared.receipt.Receipt.{Receipt}
use Rattle.nob_kept.specs.Seats as seats
use Rattle.nob_kept.proofs.Fitting.{newest_of_kind}
use Rattle.nob_kept.proofs.Newest.{newest_read}
use Rattle.nob_kept.proofs.seat.Seat.last.Goals as goal

pub returns-clause-newest : goal.returns-clause-newest
returns-clause-newest c =
    subst (λ (receipts : List Receipt). MatchOption c.last.result (seats.newest receipts ≡ None) (λ receipt. seats.newest receipts ≡ Some receipt.now))
    c.self.view_is (newest_read (λ b. b.now) c.last.result c.self.inside.receipts c.self.invariant.1 c.last.ensures.some c.last.ensures.none)

pub returns-clause-kind : goal.returns-clause-kind
returns-clause-kind c =
    newest_of_kind (λ b. b.now) c.last.result (reverse c.self.inside.receipts.items)
    (newest_read (λ b. b.now) c.last.result c.self.inside.receipts c.self.invariant.1 c.last.ensures.some c.last.ensures.none) c.self.invariant.2
