-- Each value in a list weighs less than the list.
use Rattle.std.specs.Prelude.{◌≡◌, refl, ◌≤◌, List, [], ◌∷◌, max}
use Rattle.std.proofs.Common.{arith}
use denote.Param.Weighed.{most}
use Rattle.nob_pickle.specs.Trees.{weight, weight_all}
use Rattle.nob_pickle.specs.Shape.{tree, forest}
use Rattle.nob_pickle.specs.declared.value.Value.{Value}
use Rattle.nob_pickle.specs.declared.value.Value.TheVariants as values
use Rattle.nob_pickle.specs.declared.value.Values.TheDeep.{deep-Value}
use Rattle.nob_pickle.specs.declared.value.Values.TheView.{size}

-- no value is deeper than its tree weighs
deep_le_weight : (v : Value) → deep-Value v ≤ weight (tree v)
deep_le_weight values.Unit = omega arith
deep_le_weight (values.Int n) = omega arith
deep_le_weight (values.Bytes bs) = omega arith
deep_le_weight (values.List ts) =
    let same : size ts ≡ weight_all ts = refl in
    omega (arith, same)
deep_le_weight (values.Ref r) = omega arith

deepest_le : (vs : List Value) → most deep-Value vs ≤ weight_all (forest vs)
deepest_le [] = omega arith
deepest_le (v ∷ vs) = omega (arith, deep_le_weight v, deepest_le vs)

-- no value in a list is deeper than the list weighs
pub deep_le : (vs : List Value) → max (most deep-Value vs) 0 ≤ weight_all (forest vs)
deep_le vs = omega (arith, deepest_le vs)
