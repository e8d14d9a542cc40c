use Rattle.std.proofs.Common.{length}
use Rattle.nob_check.proofs.books.+find_ledger.Given as goal

abbrev pub decreases-find_ledger : goal.decreases-find_ledger
decreases-find_ledger l = length l.books.now
