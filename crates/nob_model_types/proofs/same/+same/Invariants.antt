use Rattle.nob_item.specs.Shape.{tree, forest}
use Rattle.nob_item.specs.Trees.{weight, weight_all}
use Rattle.nob_model_types.proofs.same.+same.Given as goal

abbrev pub decreases-same_value : goal.decreases-same_value
decreases-same_value l = weight (tree l.value.now)

abbrev pub decreases-same_values : goal.decreases-same_values
decreases-same_values l = weight_all (forest l.values.now)
