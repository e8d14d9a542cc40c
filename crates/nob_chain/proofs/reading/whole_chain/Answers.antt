use Rattle.std.proofs.Common.{refl}
use Rattle.nob_model_text.proofs.Read.{not_empty}
use Rattle.nob_chain.specs.Reading.{AtSegment, ChainProblem, FrontFault}
use Rattle.nob_chain.proofs.ReadEntries.{map_fault}
use Rattle.nob_chain.proofs.Memory.{map_there}
use Rattle.nob_chain.proofs.reading.whole_chain.Goals as goal

pub returns-in_err-chain-clause-found : goal.returns-in_err-chain-clause-found
returns-in_err-chain-clause-found c = map_fault _ (FrontFault c.args.text.now) (ChainProblem c.args.text.now) c.from_residual.result c.in_err-chain.field-0.0 c.from_residual.ensures.1 c.in_err-chain.ensures.found (λ f wrong. ChainProblem.front wrong)

pub returns-then-not-is_empty-clause-found : goal.returns-then-not-is_empty-clause-found
returns-then-not-is_empty-clause-found c = ChainProblem.behind c.in_ok-chain.chain c.in_ok-chain.rest.now c.in_ok-chain.ensures.found.0 c.in_ok-chain.ensures.found.1 (λ e. not_empty c.in_ok-chain.rest.now c.is_empty.result e c.is_empty.ensures c.if-not-is_empty.true) refl

pub returns-in_err-chain-clause-memory : goal.returns-in_err-chain-clause-memory
returns-in_err-chain-clause-memory c = map_there (AtSegment c.args.text.now) (AtSegment c.args.text.now) c.from_residual.result c.in_err-chain.field-0.0 c.from_residual.ensures.1 c.in_err-chain.ensures.memory (λ at. at)
