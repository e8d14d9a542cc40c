use Rattle.nob_chain.proofs.ReadSegments.{wrong_opening}
use Rattle.nob_chain.proofs.reading.opening_at.Goals as goal

pub returns-in-Err-clause-fault : goal.returns-in-Err-clause-fault
returns-in-Err-clause-fault c = wrong_opening c.args.behind c.args.text.now c.in-Some.line.now c.in-Some.rest.now c.in-Err.fault c.in-Some.ensures c.in-Err.ensures.fault
