use Rattle.nob_trace.proofs.OneTrace.{one_trace as the_law}
use Rattle.nob_trace.proofs.laws.one_trace.Goals as goal

pub returns : goal.returns
returns c = the_law
