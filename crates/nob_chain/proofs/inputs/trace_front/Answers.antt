use Rattle.std.proofs.Common.{◌≡◌}
use Rattle.nob_chain.proofs.ReadInputs.{error_found, error_only}
use Rattle.nob_chain.proofs.inputs.trace_front.Goals as goal

pub returns-in-Err-clause-found : goal.returns-in-Err-clause-found
returns-in-Err-clause-found c = error_found c.args.text.now c.in-Err.error c.error_as.result c.error_as.ensures c.in-Err.ensures.found
