use Rattle.nob_trace.proofs.Writable.{entries}
use Rattle.nob_trace.proofs.laws.traces_are_writable.Goals as goal

pub returns : goal.returns
returns c trace is = entries trace.version trace.entries is.entries
