use Rattle.nob_chain.proofs.OneChain.{are_writable as the_law}
use Rattle.nob_chain.proofs.laws.chains_are_writable.Goals as goal

pub returns : goal.returns
returns c = the_law
