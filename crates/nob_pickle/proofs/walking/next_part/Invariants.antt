use Rattle.std.proofs.Common.{◌≡◌, length}
use Rattle.nob_pickle.specs.Parts.{parts_ahead}
use Rattle.nob_pickle.proofs.walking.next_part.Given as goal

abbrev pub invariant-loop-values : goal.invariant-loop-values
invariant-loop-values l = parts_ahead l.ahead.items ≡ parts_ahead l.initial.ahead.items

abbrev pub decreases-loop-values : goal.decreases-loop-values
decreases-loop-values l = length l.ahead.items
