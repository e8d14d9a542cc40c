use Rattle.std.proofs.Common.{◌≡◌, ◌<◌, ◌≤◌, ◌-◌, ℕ, length, Some, slice_get}
use Rattle.nob_recall.specs.Hearing.{no_word}
use Rattle.nob_recall.proofs.table.new_table.Given as goal

-- nothing was heard by any row so far
abbrev pub invariant-loop-table : goal.invariant-loop-table
invariant-loop-table l = record {
  few : length l.table.items ≤ 1024;
  none : (k : ℕ) → k < length l.table.items → slice_get l.table.items k ≡ Some no_word;
}

abbrev pub decreases-loop-table : goal.decreases-loop-table
decreases-loop-table l = 1024 - length l.table.items
