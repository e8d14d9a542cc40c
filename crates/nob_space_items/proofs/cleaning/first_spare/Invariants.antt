use Rattle.std.proofs.Common.{◌-◌}
use Rattle.nob_space_state.specs.Parts.{state_of}
use Rattle.nob_space_items.specs.Cleaning.{NoneSpareBelow}
use Rattle.nob_space_items.proofs.cleaning.first_spare.Given as goal

abbrev pub invariant-loop-place : goal.invariant-loop-place
invariant-loop-place l = NoneSpareBelow (state_of l.parts) l.place

abbrev pub decreases-loop-place : goal.decreases-loop-place
decreases-loop-place l = l.parts.table.dirties - l.place
