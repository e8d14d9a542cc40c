use Rattle.std.proofs.Common.{◌≡◌, ◌++◌, drop}
use Rattle.std.specs.String.{string_bytes}
use Rattle.nob_chain.specs.Seals.{peers_text}
use Rattle.nob_chain.proofs.writing.put_peers.Given as goal

-- what is written and what is left are all
abbrev pub invariant-loop-peer : goal.invariant-loop-peer
invariant-loop-peer l = string_bytes l.text ++ peers_text (drop l.peer-index l.all) ≡ string_bytes l.initial.text ++ peers_text l.all
