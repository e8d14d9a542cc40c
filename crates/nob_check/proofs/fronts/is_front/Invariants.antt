use Rattle.std.proofs.Common.{◌≡◌, ◌+◌, drop}
use Rattle.nob_model_journal.specs.Tests as tests
use Rattle.nob_check.proofs.fronts.is_front.Given as goal

-- all are the first of the items if those that are left are the first of the items that are left
abbrev pub invariant-loop-one : goal.invariant-loop-one
invariant-loop-one l = record {
  counted : l.number ≡ l.one-index + 1;
  same : tests.is_front l.number (drop l.one-index l.acted_on) l.rest ≡ tests.is_front 1 l.acted_on l.items;
}
