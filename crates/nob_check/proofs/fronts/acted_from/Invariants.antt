use Rattle.std.proofs.Common.{◌≡◌, ◌++◌, drop}
use Rattle.nob_check.specs.Checks.{acted_from_by}
use Rattle.nob_check.proofs.fronts.acted_from.Given as goal

-- the items so far, and those among the others
abbrev pub invariant-loop-acted_item : goal.invariant-loop-acted_item
invariant-loop-acted_item l = l.items.items ++ acted_from_by l.sender l.session (drop l.acted_item-index l.acted_items) ≡ acted_from_by l.sender l.session l.acted_items
