use Rattle.nob_trace.proofs.OneFault.{one_fault as the_law}
use Rattle.nob_trace.proofs.laws.one_fault.Goals as goal

pub returns : goal.returns
returns c = the_law
