use Rattle.std.proofs.Common.{◌≡◌, ◌++◌, length}
use Rattle.nob_pickle.specs.Spelling.{refs_in}
use Rattle.nob_pickle.specs.Parts.{refs_among, parts_ahead}
use Rattle.nob_pickle.proofs.walking.refs_of.Given as goal

abbrev pub invariant-loop-ahead : goal.invariant-loop-ahead
invariant-loop-ahead l = l.refs.items ++ refs_among (parts_ahead l.ahead.items) ≡ refs_in l.value

abbrev pub decreases-loop-ahead : goal.decreases-loop-ahead
decreases-loop-ahead l = length (parts_ahead l.ahead.items)
