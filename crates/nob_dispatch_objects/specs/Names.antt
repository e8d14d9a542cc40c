-- The names of an agent, each with the reference that it stands for, in the order of the names. A name is bytes.
use Rattle.std.specs.Prelude.{ℕ, Bool, ◌&&◌, not, nat_le, List, length, Option, is_some}
use Rattle.std.specs.declared.cmp.Ordering.{Ordering}
use Rattle.std.specs.Ordering.{nat_cmp, is_eq}
use Rattle.std.specs.Cmp.Lexicographic.{slice_cmp}
use Rattle.std.specs.Map.{lookup, remove_entry}
use Rattle.std.specs.BTreeMap.{insert_entry}
use Rattle.nob_ids.specs.declared.wire_rep.WireRep.{WireRep}

-- which of two names comes first: they are compared byte by byte
abbrev pub order_of_names : List ℕ → List ℕ → Ordering
order_of_names = slice_cmp nat_cmp

-- whether two names are the same
abbrev pub same_name : List ℕ → List ℕ → Bool
same_name name other = is_eq (order_of_names name other)

-- the reference that a name stands for, if there is such a name
abbrev pub reference_of : List ℕ → List (List ℕ × WireRep) → Option WireRep
reference_of name table = lookup (same_name name) table

-- the table in which the name stands for the reference, and each other name for what it stood for
abbrev pub with_name : List ℕ → WireRep → List (List ℕ × WireRep) → List (List ℕ × WireRep)
with_name name rep table = insert_entry order_of_names table name rep

-- the table without the name
abbrev pub without_name : List ℕ → List (List ℕ × WireRep) → List (List ℕ × WireRep)
without_name name table = remove_entry (same_name name) table

-- bytes that are a name: 1 to 255
abbrev pub is_name : List ℕ → Bool
is_name bytes = nat_le 1 (length bytes) && nat_le (length bytes) 255

-- so many names at most
abbrev pub most_names : ℕ
most_names = 1024

-- whether there is no room for a name: there are as many as may be, and it is none of them
abbrev pub is_full_for : List ℕ → List (List ℕ × WireRep) → Bool
is_full_for name table = nat_le most_names (length table) && not (is_some (reference_of name table))
