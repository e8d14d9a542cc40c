use Rattle.std.proofs.Common.{◌≡◌, ◌+◌, ◌*◌, ◌++◌, drop}
use Rattle.std.specs.String.{string_bytes}
use Rattle.nob_pickle.specs.Trees.{weight, weight_all}
use Rattle.nob_pickle.specs.Shape.{tree, forest}
use Rattle.nob_model_text.specs.Values.{behind_text}
use Rattle.nob_model_text.proofs.value_writing.+writing.Given as goal

abbrev pub decreases-put_value : goal.decreases-put_value
decreases-put_value l = 2 * weight (tree l.value.now)

abbrev pub decreases-put_list : goal.decreases-put_list
decreases-put_list l = 2 * weight_all (forest l.values.now) + 1

abbrev pub decreases-put_behind : goal.decreases-put_behind
decreases-put_behind l = 2 * weight_all (forest l.values.now)

-- what is written and what is left are all
abbrev pub invariant-put_behind-loop-value : goal.invariant-put_behind-loop-value
invariant-put_behind-loop-value l =
    string_bytes l.text ++ behind_text (forest (drop l.value-index l.values)) ≡ string_bytes l.initial.text ++ behind_text (forest l.values)
