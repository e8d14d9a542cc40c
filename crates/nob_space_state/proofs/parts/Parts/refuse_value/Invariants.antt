use Rattle.std.proofs.Common.{◌≡◌, ◌-◌, ◌≤◌, length, filter, drop}
use Rattle.nob_ids.specs.Names.{is_counted}
use Rattle.nob_pickle.specs.Spelling.{refs_in}
use Rattle.nob_space_state.specs.Parts.{state_of}
use Rattle.nob_space_state.specs.Sending.{refs_refusal}
use Rattle.nob_space_state.proofs.parts.Parts.refuse_value.Given as goal

abbrev pub invariant-loop-rep : goal.invariant-loop-rep
invariant-loop-rep l = record {
  few : l.number ≤ length (filter is_counted (refs_in l.value));
  so_far : refs_refusal l.self.here.space (state_of l.self) (filter is_counted (refs_in l.value)) ≡ refs_refusal l.self.here.space (state_of l.self) (drop l.number (filter is_counted (refs_in l.value)));
}

abbrev pub decreases-loop-rep : goal.decreases-loop-rep
decreases-loop-rep l = length (filter is_counted (refs_in l.value)) - l.number
