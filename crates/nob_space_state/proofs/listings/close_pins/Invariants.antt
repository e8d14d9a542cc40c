use Rattle.std.proofs.Common.{length}
use Rattle.nob_pins.specs.Bundles.{KeepsOthers, of_peer}
use Rattle.nob_table.specs.Table.{Marked}
use Rattle.nob_space_state.specs.Looks.{HaveUsers}
use Rattle.nob_space_state.proofs.listings.close_pins.Given as goal

abbrev pub invariant-loop-lost : goal.invariant-loop-lost
invariant-loop-lost l = record {
  pins : KeepsOthers l.fn.pins.bundles l.pins.bundles l.closed.peer;
  table : Marked l.fn.table l.table;
  kept : HaveUsers l.me l.fn.table l.fn.pins.bundles l.dirty → HaveUsers l.me l.table l.pins.bundles l.dirty;
}

abbrev pub decreases-loop-lost : goal.decreases-loop-lost
decreases-loop-lost l = length (of_peer l.closed.peer l.pins.bundles)
