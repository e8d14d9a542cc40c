use Rattle.std.proofs.Common.{◌≡◌, ◌+◌, ◌*◌, take, drop}
use Rattle.nob_pickle.specs.Trees.{weight, weight_all}
use Rattle.nob_pickle.specs.Shape.{tree, forest}
use Rattle.nob_pickle.specs.Limits.{AreTyped}
use Rattle.nob_pickle.specs.Writing.{left_after_all}
use Rattle.nob_pickle.proofs.judging.+judging.Given as goal

abbrev pub decreases-judge : goal.decreases-judge
decreases-judge l = 2 * weight (tree l.value.now)

abbrev pub decreases-judge_list : goal.decreases-judge_list
decreases-judge_list l = 2 * weight_all (forest l.values.now) + 1

abbrev pub decreases-judge_all : goal.decreases-judge_all
decreases-judge_all l = 2 * weight_all (forest l.values.now)

abbrev pub invariant-judge_all-loop-value : goal.invariant-judge_all-loop-value
invariant-judge_all-loop-value l =
    (left_after_all (forest (drop l.value-index l.values)) l.levels l.left ≡ left_after_all (forest l.values) l.levels l.references) × AreTyped (forest (take l.value-index l.values))
