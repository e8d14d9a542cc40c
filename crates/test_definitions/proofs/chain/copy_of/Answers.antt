use Rattle.std.proofs.Common.{sym, ◌∙◌}
use Rattle.test_definitions.proofs.chain.copy_of.Goals as goal

pub returns : goal.returns
returns c = (rw c.into_bytes.ensures.value (c.in_ok-text_of.ensures ∙ sym c.in_ok-chain.ensures.found.1), c.in_ok-chain.chain, c.in_ok-chain.ensures.found.0, c.in_ok-chain.ensures.found.1)
