use Rattle.std.proofs.Common.{vec_len}
use Rattle.nob_pins.specs.Evidence.{AreTo}
use Rattle.nob_pins.proofs.pin.give_up_all.Given as goal

abbrev pub invariant-loop-lost : goal.invariant-loop-lost
invariant-loop-lost l = AreTo l.closed.peer l.left.items

abbrev pub decreases-loop-lost : goal.decreases-loop-lost
decreases-loop-lost l = vec_len l.left
