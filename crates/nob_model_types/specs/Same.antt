-- Whether two values are the same.
use Rattle.std.specs.Prelude.{ℕ, Bool, true, false, ◌&&◌, ◌==◌, List}
use Rattle.std.specs.Ordering.{int_eq}
use Rattle.std.specs.Str.{bytes_eq}
use Rattle.nob_ids.specs.Names.{is_same}
use Rattle.nob_item.specs.Shape.{tree}
use Rattle.nob_item.specs.Trees.{Tree, Trees, unit, int, bytes, list, ref, none, more}
use Rattle.nob_item.specs.Value.{Value}

abbrev mutual
  -- whether two trees are the same
  pub same_tree : Tree → Tree → Bool
  same_tree unit unit = true
  same_tree (int a) (int b) = int_eq a b
  same_tree (bytes a) (bytes b) = bytes_eq a b
  same_tree (list a) (list b) = same_trees a b
  same_tree (ref a) (ref b) = is_same a b
  same_tree _ _ = false

  -- whether trees one after another are the same
  pub same_trees : Trees → Trees → Bool
  same_trees none none = true
  same_trees (more a as_) (more b bs) = same_tree a b && same_trees as_ bs
  same_trees _ _ = false

-- whether two values are the same
abbrev pub same_value : Value → Value → Bool
same_value a b = same_tree (tree a) (tree b)
