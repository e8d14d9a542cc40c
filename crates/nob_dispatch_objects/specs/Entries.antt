-- The names of an agent as its table keeps them.
use Rattle.std.specs.Prelude.{ℕ, List, [], ◌∷◌, Vec}
use Rattle.std.specs.declared.alloc.Global.{Global}
use Rattle.nob_ids.specs.declared.wire_rep.WireRep.{WireRep}

-- entries whose keys are vectors, with the bytes of each
abbrev pub by_bytes : List (Vec ℕ Global × WireRep) → List (List ℕ × WireRep)
by_bytes [] = []
by_bytes (entry ∷ entries) = (entry.0.items, entry.1) ∷ by_bytes entries
