use Rattle.std.proofs.Common.{◌≡◌, ◌+◌, ◌≤◌}
use Rattle.nob_ids.specs.declared.wire_rep.WireRep.{WireRep}
use Rattle.nob_pins.specs.Bundles.{times}
use Rattle.nob_pins.specs.Evidence.{reps_of}
use Rattle.nob_pins.specs.Peers.{count_in}
use Rattle.nob_pins.proofs.counts.take_all.Given as goal
use lib.ListN.{drop}

abbrev pub invariant-loop-pin : goal.invariant-loop-pin
invariant-loop-pin l = ((rep : WireRep) → count_in l.counts.rows rep + times rep (reps_of l.pins) ≡ count_in l.initial.counts.rows rep + times rep (reps_of (drop l.pin-index l.pins))) × (l.initial.counts.room ≤ l.counts.room)
