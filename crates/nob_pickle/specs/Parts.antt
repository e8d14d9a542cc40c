-- The parts of a value in reading order: how a walk without recursion sees it.
use Rattle.std.specs.Prelude.{List, [], ◌∷◌, ◌++◌}
use denote.Ref.{Bor}
use Rattle.nob_ids.specs.declared.wire_rep.WireRep.{WireRep}
use Rattle.nob_pickle.specs.Trees.{Tree, unit, int, bytes, list, ref, Trees, none, more}
use Rattle.nob_pickle.specs.Shape.{forest}
use Rattle.nob_pickle.specs.declared.value.Value.{Value}

abbrev mutual
  -- a tree, and then the parts of its elements
  pub parts : Tree → List Tree
  parts unit = unit ∷ []
  parts (int n) = int n ∷ []
  parts (bytes bs) = bytes bs ∷ []
  parts (list ts) = list ts ∷ all_parts ts
  parts (ref r) = ref r ∷ []

  -- the parts of trees, one after another
  pub all_parts : Trees → List Tree
  all_parts none = []
  all_parts (more t ts) = parts t ++ all_parts ts

-- the references that are parts
abbrev pub refs_among : List Tree → List WireRep
refs_among [] = []
refs_among (unit ∷ ts) = refs_among ts
refs_among (int n ∷ ts) = refs_among ts
refs_among (bytes bs ∷ ts) = refs_among ts
refs_among (list us ∷ ts) = refs_among ts
refs_among (ref r ∷ ts) = r ∷ refs_among ts

-- the parts that a walk has ahead of it, which keeps slices of values, the next one last
abbrev pub parts_ahead : List (Bor (List Value)) → List Tree
parts_ahead [] = []
parts_ahead (s ∷ ss) = parts_ahead ss ++ all_parts (forest s.now)
