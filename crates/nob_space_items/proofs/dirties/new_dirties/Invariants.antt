use Rattle.std.proofs.Common.{◌≡◌, take}
use Rattle.nob_space_items.proofs.dirties.new_dirties.Given as goal

abbrev pub invariant-loop-rep : goal.invariant-loop-rep
invariant-loop-rep l = l.dirties.items ≡ take l.rep-index l.reps
