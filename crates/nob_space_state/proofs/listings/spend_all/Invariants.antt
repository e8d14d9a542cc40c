use Rattle.nob_pins.specs.Evidence.{AreOf, reps_of}
use Rattle.nob_table.specs.Table.{Marked}
use Rattle.nob_space_state.proofs.Letting.{LetsGoBut}
use Rattle.nob_space_state.proofs.listings.spend_all.Given as goal

abbrev pub invariant-loop-pin : goal.invariant-loop-pin
invariant-loop-pin l = record {
  pins : AreOf l.settled.peer l.settled.item l.left.items;
  table : Marked l.fn.table l.table;
  kept : LetsGoBut l.me l.pins.bundles l.dirty (reps_of l.fn.ended.items) (reps_of l.left.items) l.fn.table l.table;
}

abbrev pub decreases-loop-pin : goal.decreases-loop-pin
decreases-loop-pin l = goal.left-loop-pin l
