use Rattle.std.proofs.Common.{sym, ◌∙◌}
use Rattle.nob_chain.specs.Reading.{FrontFault}
use Rattle.nob_chain.proofs.OneChain.{no_front_fault, one_front}
use Rattle.nob_chain.proofs.ReadSegments.{exact}
use Rattle.nob_chain.proofs.reading.chain_at.Goals as goal

pub returns-clause-only : goal.returns-clause-only
returns-clause-only c chain rest is spelt =
    exact _ _ (FrontFault c.args.text.now) c.front_chain.result c.front_chain.ensures.found (λ parts found. one_front parts.0 chain parts.1.now rest found.0 is (sym found.1 ∙ spelt)) (λ f wrong. no_front_fault c.args.text.now rest chain f is spelt wrong)
