use Rattle.std.proofs.Common.{◌≡◌, take, All}
use Rattle.std.specs.List.{flat_map}
use Rattle.nob_chain.specs.Chains.{chain_text}
use Rattle.nob_chain.specs.Writing.{IsWritable}
use Rattle.nob_demo_spaces.proofs.telling.print.Given as goal

-- the text so far is that of the chains so far
abbrev pub invariant-loop-chain : goal.invariant-loop-chain
invariant-loop-chain l = record {
  text : l.text.items ≡ flat_map chain_text (take l.chain-index l.chains);
  written : All IsWritable (take l.chain-index l.chains);
}
