use Rattle.test_definitions.proofs.Entering.{found_first, found_rest}
use Rattle.test_definitions.proofs.Playing.{found_so}
use Rattle.test_definitions.proofs.entries.journal_entry_of.Goals as goal

pub returns-in-Some-clause-only : goal.returns-in-Some-clause-only
returns-in-Some-clause-only c = λ entry spelt. found_first c.args.line.now c.in-Some.entry entry (found_so _ c.in_ok-entry.field-0 c.in-Some.entry c.in-Some.is c.in_ok-entry.ensures.found) spelt

pub returns-in-None-clause-only : goal.returns-in-None-clause-only
returns-in-None-clause-only c = found_rest c.args.line.now c.in_ok-entry.field-0 c.spelt_entry-in-None.result c.in-None.is c.in_ok-entry.ensures.only c.spelt_entry-in-None.ensures.only
