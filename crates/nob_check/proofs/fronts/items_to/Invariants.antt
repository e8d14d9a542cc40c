use Rattle.std.proofs.Common.{◌≡◌, ◌++◌, drop}
use Rattle.nob_check.specs.Checks.{items_to}
use Rattle.nob_check.proofs.fronts.items_to.Given as goal

-- the items so far, and those among the others
abbrev pub invariant-loop-sent_item : goal.invariant-loop-sent_item
invariant-loop-sent_item l = l.items.items ++ items_to l.receiver l.session (drop l.sent_item-index l.sent_items) ≡ items_to l.receiver l.session l.sent_items
