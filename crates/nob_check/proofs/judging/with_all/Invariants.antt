use Rattle.std.proofs.Common.{◌≡◌, drop, true}
use Rattle.nob_check.specs.Books.{have_loans_made}
use Rattle.nob_check.specs.Judging as words
use Rattle.nob_check.proofs.judging.with_all.Given as goal

-- what is seen once the entries that are left are there too is what is seen of all
abbrev pub invariant-loop-entry : goal.invariant-loop-entry
invariant-loop-entry l = record {
  whole : words.with_all l.n (drop l.entry-index l.journal) l.judging ≡ words.with_all l.n l.journal l.initial.judging;
  lent : have_loans_made l.judging.books ≡ true;
}
