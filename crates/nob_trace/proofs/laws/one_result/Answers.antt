use Rattle.nob_trace.proofs.OneResult.{one_result as the_law}
use Rattle.nob_trace.proofs.laws.one_result.Goals as goal

pub returns : goal.returns
returns c = the_law
