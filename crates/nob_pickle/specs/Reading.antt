-- Reading from the front, with the first fault that is met.
use Rattle.std.specs.Prelude.{ℕ, zero, suc, ◌-◌, ◌==◌, ◌&&◌, ◌||◌, Bool, false, List, [], ◌∷◌, length, take, drop, nat_lt, Result, Ok, Err, if◌then◌else◌, not}
use Rattle.std.specs.Int.{w64, cast_signed}
use Rattle.byteorder.specs.Endian.{big_number}
use Rattle.nob_bytes.specs.Numbers as numbers
use Rattle.nob_ids.specs.Names.{is_space}
use Rattle.nob_pickle.specs.Trees.{Tree, unit, int, bytes, list, ref, Trees, none, more}
use Rattle.nob_pickle.specs.Shape.{value}
use Rattle.nob_pickle.specs.Limits.{most_levels, most_bytes, most_elements, most_references, most_in_all}
use Rattle.nob_pickle.specs.Writing.{◌>>=◌}
use Rattle.nob_pickle.specs.declared.value.Value.{Value}
use Rattle.nob_pickle.specs.declared.fault.PickleFault.{PickleFault}
use Rattle.nob_pickle.specs.declared.fault.PickleFault.TheVariants as faults

-- what stands in front: what it is, how many references may still come, and the bytes after it
abbrev pub Front : Type 0 → Type 0
Front T = Result (T × ℕ × List ℕ) PickleFault

-- a number of so many bytes, and the bytes after it
abbrev pub number_at : ℕ → List ℕ → Result (ℕ × List ℕ) PickleFault
number_at size bs = numbers.number_at faults.Short size bs

-- a whole number, behind its first byte
unfoldable pub int_at : ℕ → List ℕ → Front Tree
int_at left bs = do
  n ← number_at 8 bs
  Ok (int (cast_signed w64 n.0), left, n.1)

-- bytes, behind their first byte: a length above 8,192 is judged as soon as it is read
unfoldable pub bytes_at : ℕ → List ℕ → Front Tree
bytes_at left bs = do
  n ← number_at 4 bs
  if nat_lt most_bytes n.0 then Err faults.Bytes else if nat_lt (length n.1) n.0 then Err faults.Short else Ok (bytes (take n.0 n.1), left, drop n.0 n.1)

-- a reference, behind its first byte: judged once its bytes are there, its owner first
unfoldable pub ref_at : ℕ → List ℕ → Front Tree
ref_at left bs = do
  owner ← number_at 2 bs
  index ← number_at 8 owner.1
  if not (is_space owner.0) then Err faults.Space else if left == 0 then Err faults.TooBig else Ok (ref (record { owner = owner.0; index = index.0 }), left - 1, index.1)

-- so many trees, one after another, each as `tree_at` reads it
unfoldable pub trees_at : (ℕ → List ℕ → Front Tree) → ℕ → ℕ → List ℕ → Front Trees
trees_at tree_at zero left bs = Ok (none, left, bs)
trees_at tree_at (suc n) left bs = do
  first ← tree_at left bs
  others ← trees_at tree_at n first.1 first.2
  Ok (more first.0 others.0, others.1, others.2)

-- a list, behind its first byte: a count above 256 is judged as soon as it is read
unfoldable pub list_at : (ℕ → List ℕ → Front Tree) → ℕ → List ℕ → Front Tree
list_at tree_at left bs = do
  n ← number_at 2 bs
  if nat_lt most_elements n.0 then Err faults.Count else (trees_at tree_at n.0 left n.1 >>= λ ts. Ok (list ts.0, ts.1, ts.2))

-- a tree, by its first byte, whose elements are read by `tree_at`
unfoldable pub tree_by : (ℕ → List ℕ → Front Tree) → ℕ → List ℕ → Front Tree
tree_by tree_at left [] = Err faults.Short
tree_by tree_at left (first ∷ bs) =
    if first == 0 then Ok (unit, left, bs)
    else if first == 1 then int_at left bs
    else if first == 2 then bytes_at left bs
    else if first == 3 then list_at tree_at left bs
    else if first == 4 then ref_at left bs
    else Err faults.Tag

-- a tree that may have so many levels; where it may have none, that is judged before its first byte
unfoldable pub tree_at : ℕ → ℕ → List ℕ → Front Tree
tree_at zero left bs = Err faults.Depth
tree_at (suc levels) left bs = tree_by (tree_at levels) left bs

-- whether a number is at least 1 and at most another
abbrev pub is_some_of : ℕ → ℕ → Bool
is_some_of most n = nat_lt 0 n && not (nat_lt most n)

-- whether bytes, behind their first byte, are at least one and not too many, and all there
abbrev pub has_bytes : List ℕ → Bool
has_bytes bs = not (nat_lt (length bs) 4) && (is_some_of most_bytes (big_number 4 bs) && not (nat_lt (length (drop 4 bs)) (big_number 4 bs)))

-- whether a list, behind its first byte, has at least one element and not too many
abbrev pub has_elements : List ℕ → Bool
has_elements bs = not (nat_lt (length bs) 2) && is_some_of most_elements (big_number 2 bs)

-- whether what stands in front is such bytes or such a list: reading anything else takes no memory
abbrev pub wants_memory : List ℕ → Bool
wants_memory [] = false
wants_memory (first ∷ bs) = (first == 2 && has_bytes bs) || (first == 3 && has_elements bs)

-- the value that all of the bytes spell: none of more than 16,000 bytes; 16 levels, 32 references, and no byte after it
unfoldable pub value_read : List ℕ → Result Value PickleFault
value_read bs =
    if nat_lt most_in_all (length bs) then Err faults.TooBig
    else (tree_at most_levels most_references bs >>= λ t. if length t.2 == 0 then Ok (value t.0) else Err faults.Trailing)
