use Rattle.nob_chain.proofs.ReadSegments.{seal_error}
use Rattle.nob_chain.proofs.Memory.{always_there}
use Rattle.nob_chain.proofs.reading.seal_at.Goals as goal

pub returns-in_err-seal-clause-found : goal.returns-in_err-seal-clause-found
returns-in_err-seal-clause-found c = seal_error _ c.args.head.now c.args.text.now c.in-Some.line.now c.in-Some.rest.now c.from_residual.result c.in_err-seal.field-0.0 c.in-Some.ensures c.from_residual.ensures.1 c.in_err-seal.ensures

pub returns-in_err-seal-clause-memory : goal.returns-in_err-seal-clause-memory
returns-in_err-seal-clause-memory c = always_there _ c.from_residual.result (c.in-Some.line.now, c.in-Some.rest.now, c.in-Some.ensures)
