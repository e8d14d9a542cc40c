use Rattle.std.proofs.Common.{vec_len}
use Rattle.nob_pins.specs.Evidence.{AreOf}
use Rattle.nob_pins.proofs.pin.spend_all.Given as goal

abbrev pub invariant-loop-pin : goal.invariant-loop-pin
invariant-loop-pin l = AreOf l.settled.peer l.settled.item l.left.items

abbrev pub decreases-loop-pin : goal.decreases-loop-pin
decreases-loop-pin l = vec_len l.left
