use Rattle.std.proofs.Common.{◌≡◌, ◌≤◌, take, length}
use Rattle.std.specs.Vec.{vec_len, vec_capacity}
use Rattle.nob_pins.specs.Evidence.{AreOf, reps_of}
use Rattle.nob_space_state.proofs.pinning.pins_on.Given as goal

abbrev pub invariant-loop-rep : goal.invariant-loop-rep
invariant-loop-rep l = (reps_of l.pins.items ≡ take l.rep-index l.reps) × AreOf l.peer l.item l.pins.items × (vec_len l.pins ≡ l.rep-index) × (length l.reps ≤ vec_capacity l.pins)
