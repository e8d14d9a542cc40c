use Rattle.std.proofs.Common.{◌≡◌, ◌+◌, length, drop}
use Rattle.nob_pickle.specs.Trees.{weight}
use Rattle.nob_pickle.specs.Shape.{tree, forest}
use Rattle.nob_pickle.specs.Spelling.{spelling, spelled_all}
use Rattle.nob_pickle.proofs.judging.+room_after.Given as goal

abbrev pub decreases-room_after : goal.decreases-room_after
decreases-room_after l = weight (tree l.value.now)

abbrev pub invariant-loop-element : goal.invariant-loop-element
invariant-loop-element l = length (spelling l.value) + l.left ≡ l.room + length (spelled_all (forest (drop l.element-index l.element-items)))
