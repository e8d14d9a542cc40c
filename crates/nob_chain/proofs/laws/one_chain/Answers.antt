use Rattle.nob_chain.proofs.OneChain.{one_chain as the_law}
use Rattle.nob_chain.proofs.laws.one_chain.Goals as goal

pub returns : goal.returns
returns c = the_law
