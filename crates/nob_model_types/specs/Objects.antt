-- The objects of a space: which were exported and which are live.
use Rattle.std.specs.Prelude.{ℕ, Bool, true, false, ◌&&◌, ◌||◌, not, ◌==◌, List, [], ◌∷◌, ◌++◌, filter}
use Rattle.std.specs.List.{list_any}
use Rattle.nob_ids.specs.Names.{is_same}
use Rattle.nob_ids.specs.declared.wire_rep.WireRep.{WireRep}
use Rattle.nob_model_types.specs.declared.deed.Deed.{Deed}
use Rattle.nob_model_types.specs.declared.deed.Deed.TheVariants.{Export, Withdraw}

-- the references that Export answered, the first first
abbrev pub exports : List Deed → List WireRep
exports [] = []
exports (Export rep ∷ D) = exports D ++ rep ∷ []
exports (_ ∷ D) = exports D

-- whether space s exported the object of an index
abbrev pub is_exported : (s index : ℕ) → List Deed → Bool
is_exported s index D = list_any (is_same (record { owner = s; index = index })) (exports D)

-- whether the object of an index was withdrawn
abbrev pub is_withdrawn : ℕ → List Deed → Bool
is_withdrawn index [] = false
is_withdrawn index (Withdraw x ∷ D) = x == index || is_withdrawn index D
is_withdrawn index (_ ∷ D) = is_withdrawn index D

-- whether the object of an index of space s is live: exported and never withdrawn
abbrev pub is_live : (s index : ℕ) → List Deed → Bool
is_live s index D = is_exported s index D && not (is_withdrawn index D)

-- the references to live objects of space s, the first exported first
abbrev pub live : ℕ → List Deed → List WireRep
live s D = filter (λ rep. rep.owner == s && not (is_withdrawn rep.index D)) (exports D)
