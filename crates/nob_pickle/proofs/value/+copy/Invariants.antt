use Rattle.std.proofs.Common.{◌≡◌, take}
use Rattle.nob_pickle.specs.Shape.{forest}
use Rattle.nob_pickle.proofs.value.+copy.Given as goal

abbrev pub invariant-Values::copy-loop-value : goal.invariant-Values::copy-loop-value
invariant-Values::copy-loop-value l = forest l.copies.items ≡ forest (take l.value-index l.value-items)
