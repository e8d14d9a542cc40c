-- The one spelling of each reference and each value in scripts and traces.
use Rattle.std.specs.Prelude.{◌≡◌, ℕ, ◌+◌, ◌<◌, ◌≤◌, ◌^◌, max, List, [], ◌∷◌, ◌++◌, codes}
use Rattle.std.specs.Int.{w64}
use Rattle.std.specs.Int.RustNames.{FitsSigned}
use Rattle.std.specs.Fmt.{decimal, signed_decimal}
use Rattle.hex.specs.Hex.{encode_lower, IsBytes}
use Rattle.nob_ids.specs.Names.{IsSpace}
use Rattle.nob_ids.specs.declared.wire_rep.WireRep.{WireRep}
use Rattle.nob_pickle.specs.Trees.{Tree, unit, int, bytes, list, ref, Trees, none, more}
use Rattle.nob_pickle.specs.Shape.{tree}
use Rattle.nob_pickle.specs.declared.value.Value.{Value}

-- a reference: its owner, a point, and its index
abbrev pub rep_text : WireRep → List ℕ
rep_text rep = decimal rep.owner ++ 46 ∷ decimal rep.index

abbrev mutual
  -- a letter that says what it is, and then the number, the bytes or the reference: a list stands in brackets
  pub tree_text : Tree → List ℕ
  tree_text unit = codes "u"
  tree_text (int n) = 105 ∷ signed_decimal n
  tree_text (bytes bs) = 98 ∷ encode_lower bs
  tree_text (list ts) = 91 ∷ inside_text ts
  tree_text (ref r) = 114 ∷ rep_text r

  -- the elements of a list, parted by commas, and the bracket that ends it
  pub inside_text : Trees → List ℕ
  inside_text none = codes "]"
  inside_text (more t ts) = tree_text t ++ behind_text ts

  -- the elements behind another one, each after a comma, and the bracket that ends the list
  pub behind_text : Trees → List ℕ
  behind_text none = codes "]"
  behind_text (more t ts) = 44 ∷ (tree_text t ++ behind_text ts)

-- the text of a value
abbrev pub value_text : Value → List ℕ
value_text value = tree_text (tree value)

abbrev mutual
  -- how many lists stand in one another
  pub nested : Tree → ℕ
  nested unit = 0
  nested (int n) = 0
  nested (bytes bs) = 0
  nested (list ts) = 1 + most_nested ts
  nested (ref r) = 0

  -- the same of the elements of a list: the most that one of them has
  pub most_nested : Trees → ℕ
  most_nested none = 0
  most_nested (more t ts) = max (nested t) (most_nested ts)

abbrev mutual
  -- each number in it is one of its type: an i64, a byte, a space, a u64. Every value of a program is such
  pub IsTyped : Tree → Type 0
  IsTyped unit = Unit {0}
  IsTyped (int n) = FitsSigned w64 n
  IsTyped (bytes bs) = IsBytes bs
  IsTyped (list ts) = AreTyped ts
  IsTyped (ref r) = IsSpace r.owner × (r.index < 2 ^ 64)

  -- the same of trees one after another
  pub AreTyped : Trees → Type 0
  AreTyped none = Unit {0}
  AreTyped (more t ts) = IsTyped t × AreTyped ts

-- a value that a text can spell: no more than 1,000 lists stand in one another
abbrev pub HasText : Value → Type 0
HasText value = IsTyped (tree value) × (nested (tree value) ≤ 1000)
