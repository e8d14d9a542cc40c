use Rattle.std.proofs.Common.{◌≡◌, ◌+◌, ◌*◌, ◌++◌, true, take, drop}
use Rattle.nob_pickle.specs.Trees.{weight, weight_all}
use Rattle.nob_pickle.specs.Shape.{tree, forest}
use Rattle.nob_pickle.specs.Spelling.{spelled_all}
use Rattle.nob_pickle.specs.Limits.{have_short_bytes, have_short_lists}
use Rattle.nob_pickle.proofs.writing.+writing.Given as goal

abbrev pub decreases-put_value : goal.decreases-put_value
decreases-put_value l = 2 * weight (tree l.value.now)

abbrev pub decreases-put_list : goal.decreases-put_list
decreases-put_list l = 2 * weight_all (forest l.values.now) + 1

abbrev pub decreases-put_values : goal.decreases-put_values
decreases-put_values l = 2 * weight_all (forest l.values.now)

abbrev pub invariant-put_values-loop-value : goal.invariant-put_values-loop-value
invariant-put_values-loop-value l =
    (have_short_bytes (forest (drop l.value-index l.values)) ≡ true)
    × (have_short_lists (forest (drop l.value-index l.values)) ≡ true)
    × (l.pickle.items ≡ l.initial.pickle.items ++ spelled_all (forest (take l.value-index l.values)))
