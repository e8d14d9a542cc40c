use Rattle.std.proofs.Common.{◌≡◌, ◌++◌, map}
use Rattle.nob_chain.specs.Chains.{joined}
use Rattle.nob_chain_check.proofs.joining.all_joined.Given as goal

-- the chains so far as traces
abbrev pub invariant-loop-chain : goal.invariant-loop-chain
invariant-loop-chain l = (l.traces.items ≡ map joined l.yielded) × (l.fn.chains.items ≡ l.yielded ++ l.chain-iterator.rest.items)
