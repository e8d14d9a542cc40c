use Rattle.nob_trace.proofs.OneTrace.{one_front as the_law}
use Rattle.nob_trace.proofs.laws.one_front.Goals as goal

pub returns : goal.returns
returns c = the_law
