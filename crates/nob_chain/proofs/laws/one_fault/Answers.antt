use Rattle.nob_chain.proofs.OneChain.{one_fault as the_law}
use Rattle.nob_chain.proofs.laws.one_fault.Goals as goal

pub returns : goal.returns
returns c = the_law
