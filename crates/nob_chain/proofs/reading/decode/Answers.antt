use Rattle.nob_chain.specs.Reading.{ChainProblem}
use Rattle.nob_chain.proofs.OneChain.{no_problem, one_chain}
use Rattle.nob_chain.proofs.ReadSegments.{exact}
use Rattle.nob_chain.proofs.reading.decode.Goals as goal

pub returns-clause-only : goal.returns-clause-only
returns-clause-only c chain is spelt =
    exact _ _ (ChainProblem c.args.text.now) c.whole_chain.result c.whole_chain.ensures.found (λ x found. one_chain c.args.text.now x chain found.0 is found.1 spelt) (λ f wrong. no_problem c.args.text.now chain f is spelt wrong)
