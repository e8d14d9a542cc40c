use Rattle.std.proofs.Common.{vec_len}
use Rattle.nob_check.proofs.books.+ledgers_after.Given as goal

abbrev pub decreases-ledgers_after : goal.decreases-ledgers_after
decreases-ledgers_after l = vec_len l.ledgers
