use Rattle.nob_trace.proofs.Speaking.{are_known as the_law}
use Rattle.nob_trace.proofs.laws.writable_traces_are_known.Goals as goal

pub returns : goal.returns
returns c = the_law
