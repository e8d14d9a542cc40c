use Rattle.std.proofs.Common.{length}
use Rattle.nob_check_ledgers.proofs.ledger.+are_open.Given as goal

abbrev pub decreases-are_open : goal.decreases-are_open
decreases-are_open l = length l.gifts.now
