use Rattle.nob_chain.proofs.OneChain.{one_front as the_law}
use Rattle.nob_chain.proofs.laws.one_front.Goals as goal

pub returns : goal.returns
returns c = the_law
