use Rattle.std.proofs.Common.{◌-◌, ◌≤◌}
use lib.ListN.{replicate}
use Rattle.nob_space_items.specs.Lending.{Lends}
use Rattle.nob_space_items.proofs.grants.lend_times.Given as goal

abbrev pub invariant-loop-done : goal.invariant-loop-done
invariant-loop-done l = record {
  under : l.done ≤ l.times;
  lent : Lends l.fn.table l.table (replicate l.done l.rep);
}

abbrev pub decreases-loop-done : goal.decreases-loop-done
decreases-loop-done l = l.times - l.done
