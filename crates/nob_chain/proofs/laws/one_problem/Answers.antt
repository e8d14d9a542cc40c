use Rattle.nob_chain.proofs.OneChain.{one_problem as the_law}
use Rattle.nob_chain.proofs.laws.one_problem.Goals as goal

pub returns : goal.returns
returns c = the_law
