use Rattle.nob_pins.specs.Evidence.{AreTo, reps_of}
use Rattle.nob_table.specs.Table.{Marked}
use Rattle.nob_space_state.proofs.Letting.{LetsGoBut}
use Rattle.nob_space_state.proofs.listings.give_up_all.Given as goal

abbrev pub invariant-loop-pin : goal.invariant-loop-pin
invariant-loop-pin l = record {
  pins : AreTo l.closed.peer l.left.items;
  table : Marked l.fn.table l.table;
  kept : LetsGoBut l.me l.pins.bundles l.dirty (reps_of l.fn.lost.items) (reps_of l.left.items) l.fn.table l.table;
}

abbrev pub decreases-loop-pin : goal.decreases-loop-pin
decreases-loop-pin l = goal.left-loop-pin l
