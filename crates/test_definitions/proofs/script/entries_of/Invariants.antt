use Rattle.std.proofs.Common.{◌≡◌, ◌++◌, drop}
use Rattle.nob_model_journal.specs.Journals.{at}
use Rattle.test_definitions.proofs.script.entries_of.Given as goal

-- what was taken and what is left are all
abbrev pub invariant-loop-entry : goal.invariant-loop-entry
invariant-loop-entry l = l.entries.items ++ at l.space (drop l.entry-index l.journal) ≡ at l.space l.journal
