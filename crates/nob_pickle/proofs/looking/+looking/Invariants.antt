use Rattle.std.proofs.Common.{◌≡◌, ◌+◌, length, drop, slice_get}
use Rattle.nob_pickle.specs.Trees.{weight, weight_all}
use Rattle.nob_pickle.specs.Shape.{tree, forest}
use Rattle.nob_pickle.proofs.Counted.{all_counted}
use Rattle.nob_pickle.proofs.looking.+looking.Given as goal

abbrev pub decreases-look : goal.decreases-look
decreases-look l = weight (tree l.value.now)

abbrev pub decreases-look_among : goal.decreases-look_among
decreases-look_among l = weight_all (forest l.values.now)

abbrev pub invariant-look_among-loop-value : goal.invariant-look_among-loop-value
invariant-look_among-loop-value l =
    (slice_get (all_counted l.values) l.number ≡ slice_get (all_counted (drop l.value-index l.values)) l.missing)
    × (l.number + length (all_counted (drop l.value-index l.values)) ≡ l.missing + length (all_counted l.values))
