use Rattle.std.proofs.Common.{length}
use Rattle.nob_pins.specs.Bundles.{KeepsOthers, of_peer}
use Rattle.nob_pins.proofs.table.PinTable.close.Given as goal

abbrev pub invariant-loop-pins : goal.invariant-loop-pins
invariant-loop-pins l = KeepsOthers l.initial.self.bundles l.self.bundles l.closed.peer

abbrev pub decreases-loop-pins : goal.decreases-loop-pins
decreases-loop-pins l = length (of_peer l.closed.peer l.self.bundles)
