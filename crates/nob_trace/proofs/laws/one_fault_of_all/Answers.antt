use Rattle.nob_trace.proofs.OneFault.{one_fault_of_all as the_law}
use Rattle.nob_trace.proofs.laws.one_fault_of_all.Goals as goal

pub returns : goal.returns
returns c = the_law
