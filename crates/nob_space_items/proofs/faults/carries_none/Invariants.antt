use Rattle.std.proofs.Common.{◌≡◌, ◌-◌, ◌≤◌, length, drop}
use Rattle.std.specs.List.{list_any}
use Rattle.nob_item.specs.Kinds.{counted_in}
use Rattle.nob_space_state.specs.Looks.{is_gone}
use Rattle.nob_space_items.proofs.faults.carries_none.Given as goal

abbrev pub invariant-loop-rep : goal.invariant-loop-rep
invariant-loop-rep l = record {
  few : l.number ≤ length (counted_in l.item);
  so_far : list_any (is_gone l.parts.here.space l.parts.table) (counted_in l.item) ≡ list_any (is_gone l.parts.here.space l.parts.table) (drop l.number (counted_in l.item));
}

abbrev pub decreases-loop-rep : goal.decreases-loop-rep
decreases-loop-rep l = length (counted_in l.item) - l.number
