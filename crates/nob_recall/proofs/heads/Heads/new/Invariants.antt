use Rattle.std.proofs.Common.{◌≡◌, replicate}
use Rattle.nob_recall.specs.Dues.{no_head}
use Rattle.nob_recall.proofs.heads.Heads.new.Given as goal

-- so many are there
abbrev pub invariant-loop : goal.invariant-loop
invariant-loop l = l.heads.items ≡ replicate l.counter no_head
