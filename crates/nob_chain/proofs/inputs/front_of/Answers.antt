use Rattle.std.proofs.Common.{ℕ, List, ◌≡◌}
use Rattle.nob_chain.specs.declared.chain.ChainParts.{ChainParts}
use Rattle.nob_chain.specs.Inputs.{StartFault}
use Rattle.nob_chain.proofs.ReadInputs.{map_answers, as_chain_found, as_trace_found, chain_only, trace_only}
use Rattle.nob_chain.proofs.inputs.front_of.Goals as goal

pub returns-then-begins_as_chain-clause-found : goal.returns-then-begins_as_chain-clause-found
returns-then-begins_as_chain-clause-found c =
    map_answers _ _ _ (StartFault c.args.text.now) c.chain_at.result c.chain_at.ensures.found (λ parts found. as_chain_found c.args.text.now parts.1.now parts.0 found) (λ f wrong. StartFault.in_chain (c.begins_as_chain.ensures.yes c.if-begins_as_chain.true) wrong)

pub returns-then-begins_as_chain-clause-only : goal.returns-then-begins_as_chain-clause-only
returns-then-begins_as_chain-clause-only c =
    chain_only c.args.text.now c.chain_at.result (λ chain rest parts. (parts.0 ≡ chain) × (parts.1.now ≡ rest)) (c.begins_as_chain.ensures.yes c.if-begins_as_chain.true) c.chain_at.ensures.only

pub returns-clause-found : goal.returns-clause-found
returns-clause-found c =
    map_answers _ _ _ (StartFault c.args.text.now) c.trace_front.result c.trace_front.ensures.found (λ parts found. as_trace_found c.args.text.now parts.1.now parts.0 found) (λ f wrong. StartFault.in_trace wrong.0 (c.begins_as_chain.ensures.no c.if-begins_as_chain.false) wrong.1 wrong.2)

pub returns-clause-only : goal.returns-clause-only
returns-clause-only c =
    trace_only c.args.text.now c.trace_front.result (λ chain rest parts. (parts.0 ≡ chain) × (parts.1.now ≡ rest)) (c.begins_as_chain.ensures.no c.if-begins_as_chain.false) c.trace_front.ensures.only
