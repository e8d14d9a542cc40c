-- The one spelling of each value, and the references in it.
use Rattle.std.specs.Prelude.{ℕ, ◌+◌, List, [], ◌∷◌, ◌++◌, length}
use Rattle.std.specs.Int.{w64, cast_unsigned}
use Rattle.byteorder.specs.Endian.{big_bytes}
use Rattle.nob_ids.specs.declared.wire_rep.WireRep.{WireRep}
use Rattle.nob_pickle.specs.Trees.{Tree, unit, int, bytes, list, ref, Trees, none, more, count}
use Rattle.nob_pickle.specs.Shape.{tree}
use Rattle.nob_pickle.specs.declared.value.Value.{Value}

abbrev mutual
  -- a first byte that says what it is; then a number in eight bytes, bytes behind their length, trees behind their count, or an owner and an index
  pub spelled : Tree → List ℕ
  spelled unit = 0 ∷ []
  spelled (int n) = 1 ∷ big_bytes 8 (cast_unsigned w64 n)
  spelled (bytes bs) = 2 ∷ (big_bytes 4 (length bs) ++ bs)
  spelled (list ts) = 3 ∷ (big_bytes 2 (count ts) ++ spelled_all ts)
  spelled (ref r) = 4 ∷ (big_bytes 2 r.owner ++ big_bytes 8 r.index)

  -- the spellings of trees, one after another
  pub spelled_all : Trees → List ℕ
  spelled_all none = []
  spelled_all (more t ts) = spelled t ++ spelled_all ts

-- the one spelling of a value
abbrev pub spelling : Value → List ℕ
spelling value = spelled (tree value)

-- how many bytes the spelling of a tree has, those of its elements aside
abbrev pub head_length : Tree → ℕ
head_length unit = 1
head_length (int n) = 9
head_length (bytes bs) = 5 + length bs
head_length (list ts) = 3
head_length (ref r) = 11

abbrev mutual
  -- the references in a tree, in reading order, repeats included
  pub refs : Tree → List WireRep
  refs unit = []
  refs (int n) = []
  refs (bytes bs) = []
  refs (list ts) = all_refs ts
  refs (ref r) = r ∷ []

  -- those in trees, one after another
  pub all_refs : Trees → List WireRep
  all_refs none = []
  all_refs (more t ts) = refs t ++ all_refs ts

-- the references in a value, in reading order, repeats included
abbrev pub refs_in : Value → List WireRep
refs_in value = refs (tree value)
