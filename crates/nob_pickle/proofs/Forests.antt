-- The trees of values, one after another.
use Rattle.std.proofs.Common.{◌≡◌, ℕ, ◌+◌, ◌<◌, List, [], ◌∷◌, ◌++◌, length, take, get_or, refl, sym, ap, ◌∙◌, append_assoc, arith}
use Rattle.std.proofs.lemmas.List.{take_more}
use Rattle.nob_pickle.specs.Trees.{Tree, Trees, none, more, count}
use Rattle.nob_pickle.specs.Trees as trees
use Rattle.nob_pickle.specs.Marks.{append_trees}
use Rattle.nob_pickle.specs.Shape.{tree, value, forest}
use Rattle.nob_pickle.specs.Spelling.{spelled, spelled_all}
use Rattle.nob_pickle.specs.declared.value.Value.{Value}
use Rattle.nob_pickle.specs.declared.value.Value.TheVariants as values

-- the value of a value's tree is the value
pub value-tree : (v : Value) → value (tree v) ≡ v
value-tree values.Unit = refl
value-tree (values.Int n) = refl
value-tree (values.Bytes bs) = refl
value-tree (values.List ts) = refl
value-tree (values.Ref r) = refl

-- the tree of a tree's value is the tree
pub tree-value : (t : Tree) → tree (value t) ≡ t
tree-value trees.unit = refl
tree-value (trees.int n) = refl
tree-value (trees.bytes bs) = refl
tree-value (trees.list ts) = refl
tree-value (trees.ref r) = refl

-- values of one tree are one value
pub same_value : (v w : Value) → tree v ≡ tree w → v ≡ w
same_value v w e = sym (value-tree v) ∙ ap value e ∙ value-tree w

pub forest-append : (vs ws : List Value) → forest (vs ++ ws) ≡ append_trees (forest vs) (forest ws)
forest-append [] ws = refl
forest-append (v ∷ vs) ws = ap (more (tree v)) (forest-append vs ws)

pub count_forest : (vs : List Value) → count (forest vs) ≡ length vs
count_forest [] = refl
count_forest (v ∷ vs) = omega (arith, count_forest vs)

pub joined_assoc : (a b c : Trees) → append_trees (append_trees a b) c ≡ append_trees a (append_trees b c)
joined_assoc none b c = refl
joined_assoc (more t ts) b c = ap (more t) (joined_assoc ts b c)

pub spelled_all-joined : (a b : Trees) → spelled_all (append_trees a b) ≡ spelled_all a ++ spelled_all b
spelled_all-joined none b = refl
spelled_all-joined (more t ts) b =
    ap (λ (x : List ℕ). spelled t ++ x) (spelled_all-joined ts b) ∙ sym (append_assoc (spelled t) (spelled_all ts) (spelled_all b))

-- a value that is put behind those of the first values is the next one of them
pub forest-take_more : (vs ws : List Value) (i : ℕ) (v w : Value) → i < length vs → w ≡ get_or vs i v → forest ws ≡ forest (take i vs) → forest (ws ++ w ∷ []) ≡ forest (take (i + 1) vs)
forest-take_more vs ws i v w lt same so_far =
    forest-append ws (w ∷ []) ∙ ap (λ (ts : Trees). append_trees ts (more (tree w) none)) so_far
    ∙ ap (λ (x : Value). append_trees (forest (take i vs)) (more (tree x) none)) same
    ∙ sym (ap forest (take_more vs i v lt) ∙ forest-append (take i vs) (get_or vs i v ∷ []))
