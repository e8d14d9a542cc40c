use Rattle.std.proofs.Common.{◌≡◌, ◌+◌, ◌-◌, ◌≤◌, ◌^◌, length}
use Rattle.nob_ids.specs.declared.wire_rep.WireRep.{WireRep}
use Rattle.nob_pins.specs.Bundles.{times}
use Rattle.nob_pins.specs.Evidence.{reps_of}
use Rattle.nob_pins.specs.Peers.{count_in}
use Rattle.nob_pins.proofs.counts.add_all.Given as goal
use lib.ListN.{drop}

abbrev pub invariant-loop-pin : goal.invariant-loop-pin
invariant-loop-pin l = ((rep : WireRep) → count_in l.counts.rows rep + times rep (reps_of (drop l.pin-index l.pins)) ≡ count_in l.initial.counts.rows rep + times rep (reps_of l.pins)) × (length l.pins ≤ l.counts.room + l.pin-index) × ((rep : WireRep) → 1 ≤ times rep (reps_of (drop l.pin-index l.pins)) → count_in l.counts.rows rep + times rep (reps_of (drop l.pin-index l.pins)) ≤ 2 ^ 64 - 1)
