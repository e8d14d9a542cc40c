use Rattle.nob_trace.proofs.OneTrace.{one_entry as the_law}
use Rattle.nob_trace.proofs.laws.one_entry.Goals as goal

pub returns : goal.returns
returns c = the_law
