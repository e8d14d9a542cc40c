use Rattle.nob_trace.proofs.OneTrace.{one_list as the_law}
use Rattle.nob_trace.proofs.laws.one_list.Goals as goal

pub returns : goal.returns
returns c = the_law
