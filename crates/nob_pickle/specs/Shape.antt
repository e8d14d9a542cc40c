-- The tree that a value is.
use Rattle.std.specs.Prelude.{Bool, false, List, [], ◌∷◌, length, nat_lt}
use Rattle.nob_pickle.specs.Trees.{Tree, Trees, none, more, count}
use Rattle.nob_pickle.specs.Trees as trees
use Rattle.nob_pickle.specs.declared.value.Value.{Value}
use Rattle.nob_pickle.specs.declared.value.Value.TheVariants as values

-- the tree of a value
abbrev pub tree : Value → Tree
tree values.Unit = trees.unit
tree (values.Int n) = trees.int n
tree (values.Bytes bs) = trees.bytes bs
tree (values.List ts) = trees.list ts
tree (values.Ref r) = trees.ref r

-- the value of a tree
abbrev pub value : Tree → Value
value trees.unit = values.Unit
value (trees.int n) = values.Int n
value (trees.bytes bs) = values.Bytes bs
value (trees.list ts) = values.List ts
value (trees.ref r) = values.Ref r

-- the trees of values, in order
abbrev pub forest : List Value → Trees
forest [] = none
forest (v ∷ vs) = more (tree v) (forest vs)

-- whether there is anything in a value: a byte or an element
abbrev pub has_inside : Value → Bool
has_inside values.Unit = false
has_inside (values.Int n) = false
has_inside (values.Bytes bs) = nat_lt 0 (length bs)
has_inside (values.List ts) = nat_lt 0 (count ts)
has_inside (values.Ref r) = false
