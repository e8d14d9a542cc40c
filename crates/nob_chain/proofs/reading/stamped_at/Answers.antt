use Rattle.nob_chain.proofs.ReadEntries.{entry_error, low_stamp}
use Rattle.nob_chain.proofs.Memory.{always_there}
use Rattle.nob_chain.proofs.reading.stamped_at.Goals as goal

pub returns-in_err-entry-clause-found : goal.returns-in_err-entry-clause-found
returns-in_err-entry-clause-found c = entry_error _ c.args.low c.args.text.now c.in-Some.line.now c.in-Some.rest.now c.from_residual.result c.in_err-entry.field-0.0 c.in-Some.ensures c.from_residual.ensures.1 c.in_err-entry.ensures

pub returns-then-entry-low-clause-found : goal.returns-then-entry-low-clause-found
returns-then-entry-low-clause-found c = low_stamp c.args.low c.args.text.now c.in-Some.line.now c.in-Some.rest.now c.in_ok-entry.entry c.in-Some.ensures c.in_ok-entry.ensures c.if-entry-low.true

pub returns-in_err-entry-clause-memory : goal.returns-in_err-entry-clause-memory
returns-in_err-entry-clause-memory c = always_there _ c.from_residual.result (c.in-Some.line.now, c.in-Some.rest.now, c.in-Some.ensures)
