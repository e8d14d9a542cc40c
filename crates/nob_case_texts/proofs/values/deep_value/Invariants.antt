use Rattle.std.proofs.Common.{◌≡◌, ◌≤◌}
use Rattle.nob_pickle.specs.Shape.{tree}
use Rattle.nob_case_texts.specs.Values.{within_lists}
use Rattle.nob_case_texts.proofs.values.deep_value.Given as goal

abbrev pub invariant-loop : goal.invariant-loop
invariant-loop l = (tree l.value ≡ within_lists l.counter (tree l.fn.innermost)) × (l.counter ≤ l.lists)
