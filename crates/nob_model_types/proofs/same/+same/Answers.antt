use Rattle.std.proofs.Common.{◌≡◌, false, ◌<◌, ◌≤◌, List, [], ◌∷◌, length, refl, arith}
use Rattle.nob_item.specs.Shape.{forest}
use Rattle.nob_item.specs.Value.{Value}
use Rattle.nob_model_types.specs.Same.{same_trees}
use Rattle.nob_model_types.proofs.same.+same.Goals as goal

-- no value isn't one value or more
none_and_some : (vs ws : List Value) → length vs < 1 → 1 ≤ length ws → false ≡ same_trees (forest vs) (forest ws)
none_and_some [] [] short long = absurd (omega (arith, long))
none_and_some [] (w ∷ ws) short long = refl
none_and_some (v ∷ vs) ws short long = absurd (omega (arith, short))

pub same_values-returns-in-len1-up-others : goal.same_values-returns-in-len1-up-others
same_values-returns-in-len1-up-others t c = none_and_some _ _ c.in-empty.len_below c.in-len1-up-others.len_at_least
