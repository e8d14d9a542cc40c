-- Which values have a spelling.
use Rattle.std.specs.Prelude.{◌≡◌, ℕ, ◌+◌, ◌<◌, ◌^◌, max, Bool, true, ◌&&◌, IsTrue, List, length, nat_le}
use Rattle.std.specs.Int.{w64}
use Rattle.std.specs.Int.RustNames.{FitsSigned}
use Rattle.nob_ids.specs.Names.{IsSpace}
use Rattle.nob_pickle.specs.Trees.{Tree, unit, int, bytes, list, ref, Trees, none, more, count}
use Rattle.nob_pickle.specs.Shape.{tree}
use Rattle.nob_pickle.specs.Spelling.{spelling, refs_in}
use Rattle.nob_pickle.specs.declared.value.Value.{Value}

-- how many levels a value may have
abbrev pub most_levels : ℕ
most_levels = 16

-- how many bytes may stand in one value
abbrev pub most_bytes : ℕ
most_bytes = 8192

-- how many elements a list may have
abbrev pub most_elements : ℕ
most_elements = 256

-- how many references a value may have, repeats counted
abbrev pub most_references : ℕ
most_references = 32

-- how many bytes a pickle may have
abbrev pub most_in_all : ℕ
most_in_all = 16000

abbrev mutual
  -- the outermost tree has depth 1, a tree in a list one more than the list
  pub depth : Tree → ℕ
  depth unit = 1
  depth (int n) = 1
  depth (bytes bs) = 1
  depth (list ts) = 1 + deepest ts
  depth (ref r) = 1

  -- the depth of the deepest of trees
  pub deepest : Trees → ℕ
  deepest none = 0
  deepest (more t ts) = max (depth t) (deepest ts)

abbrev mutual
  -- no bytes in a tree are too long
  pub has_short_bytes : Tree → Bool
  has_short_bytes unit = true
  has_short_bytes (int n) = true
  has_short_bytes (bytes bs) = nat_le (length bs) most_bytes
  has_short_bytes (list ts) = have_short_bytes ts
  has_short_bytes (ref r) = true

  -- the same of trees one after another
  pub have_short_bytes : Trees → Bool
  have_short_bytes none = true
  have_short_bytes (more t ts) = has_short_bytes t && have_short_bytes ts

abbrev mutual
  -- no list in a tree has too many elements
  pub has_short_lists : Tree → Bool
  has_short_lists unit = true
  has_short_lists (int n) = true
  has_short_lists (bytes bs) = true
  has_short_lists (list ts) = nat_le (count ts) most_elements && have_short_lists ts
  has_short_lists (ref r) = true

  -- the same of trees one after another
  pub have_short_lists : Trees → Bool
  have_short_lists none = true
  have_short_lists (more t ts) = has_short_lists t && have_short_lists ts

-- the limits of a pickle: 16 levels, 8,192 bytes, 256 elements, 32 references, and 16,000 bytes in all
abbrev pub is_in_limits : Value → Bool
is_in_limits value =
    nat_le (depth (tree value)) most_levels && has_short_bytes (tree value) && has_short_lists (tree value)
    && nat_le (length (refs_in value)) most_references && nat_le (length (spelling value)) most_in_all

abbrev mutual
  -- each number in it is one of its type: an i64, a space, a u64. Every value of a program is such
  pub IsTyped : Tree → Type 0
  IsTyped unit = Unit {0}
  IsTyped (int n) = FitsSigned w64 n
  IsTyped (bytes bs) = Unit {0}
  IsTyped (list ts) = AreTyped ts
  IsTyped (ref r) = IsSpace r.owner × (r.index < 2 ^ 64)

  -- the same of trees one after another
  pub AreTyped : Trees → Type 0
  AreTyped none = Unit {0}
  AreTyped (more t ts) = IsTyped t × AreTyped ts

-- a value that has a spelling
pub record Fits (value : Value) : Type 0 where
  pub typed : IsTyped (tree value)
  pub in_limits : IsTrue (is_in_limits value)

-- the bytes are the spelling of a value that has one
pub record Spelt (bytes : List ℕ) (value : Value) : Type 0 where
  pub fits : Fits value
  pub is_spelling : bytes ≡ spelling value
