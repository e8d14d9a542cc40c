use Rattle.std.proofs.Common.{◌≡◌, take}
use Rattle.nob_space_state.specs.Parts.{state_of}
use Rattle.nob_space_items.specs.Messages as specs
use Rattle.nob_space_items.proofs.copies.new_copies.Given as goal

abbrev pub invariant-loop-rep : goal.invariant-loop-rep
invariant-loop-rep l = l.copies.items ≡ specs.new_copies l.parts.here.space l.parts.here.n (state_of l.parts) (take l.rep-index l.rep-items)
