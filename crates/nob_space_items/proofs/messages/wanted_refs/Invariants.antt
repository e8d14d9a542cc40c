use Rattle.std.proofs.Common.{◌≡◌, ◌-◌, ◌≤◌, length, take}
use Rattle.nob_item.specs.Kinds.{counted_in}
use Rattle.nob_space_state.specs.Parts.{state_of}
use Rattle.nob_space_items.specs.Messages.{wanted_refs}
use Rattle.nob_space_items.proofs.messages.wanted_refs.Given as goal

abbrev pub invariant-loop-rep : goal.invariant-loop-rep
invariant-loop-rep l = record {
  few : l.number ≤ length (counted_in l.item);
  fewer : length l.wanted ≤ l.number;
  so_far : l.wanted ≡ wanted_refs l.parts.here.space l.parts.here.n (state_of l.parts) (take l.number (counted_in l.item));
}

abbrev pub decreases-loop-rep : goal.decreases-loop-rep
decreases-loop-rep l = length (counted_in l.item) - l.number
