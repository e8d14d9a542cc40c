-- The pass over a journal: what was seen of the entries so far, and what is said of it.
use Rattle.std.specs.Prelude.{ℕ, Bool, true, false, ◌&&◌, not, List, [], ◌∷◌}
use Rattle.nob_model_types.specs.declared.entry.Entry.{Entry}
use Rattle.nob_model_types.specs.Deeds.{deed_in}
use Rattle.nob_model_journal.specs.Findings.{is_fault_found}
use Rattle.nob_model_journal.specs.Tests.{withdraws_safely, excuses_losses, finds_all}
use Rattle.nob_model_journal.specs.declared.verdict.Promise.TheVariants as promises
use Rattle.nob_model_journal.specs.declared.verdict.Verdict.{Verdict}
use Rattle.nob_model_journal.specs.declared.verdict.Verdict.TheVariants.{Yes, No}
use Rattle.nob_check.specs.Books.{books_of, with_entry}
use Rattle.nob_check.specs.Checks.{is_unneeded_by, is_lossless_by, keeps_fronts_by}
use Rattle.nob_check.specs.declared.judging.Judging.{Judging}

-- before the first entry
abbrev pub no_entry : Judging
no_entry = record { books = []; withdraws = true; losses = true; found = true }

-- what was seen once there is an entry more
abbrev pub with_next : ℕ → Entry → Judging → Judging
with_next n entry judging = record {
  books = with_entry n entry.space (deed_in entry) judging.books;
  withdraws = is_unneeded_by entry.space (deed_in entry) judging.books && judging.withdraws;
  losses = is_lossless_by entry.space (deed_in entry) judging.books && judging.losses;
  found = not (is_fault_found entry.result) && judging.found;
}

-- what was seen once there are these entries more, the first first
abbrev pub with_all : ℕ → List Entry → Judging → Judging
with_all n [] judging = judging
with_all n (entry ∷ later) judging = with_all n later (with_next n entry judging)

-- what is seen of a journal, the newest entry first
abbrev pub judging_of : ℕ → List Entry → Judging
judging_of n J = record { books = books_of n J; withdraws = withdraws_safely n J; losses = excuses_losses n J; found = finds_all J }

-- what is said where these promises are kept
abbrev pub verdict_by : (fronts withdraws losses found : Bool) → Verdict
verdict_by false withdraws losses found = No promises.Fronts
verdict_by true false losses found = No promises.Withdraws
verdict_by true true false found = No promises.Losses
verdict_by true true true false = No promises.Found
verdict_by true true true true = Yes

-- what is said of all that was seen
abbrev pub verdict_on : Judging → Verdict
verdict_on judging = verdict_by (keeps_fronts_by judging.books) judging.withdraws judging.losses judging.found
