-- A law of the grammar.
use Rattle.std.specs.Prelude.{◌≡◌, ℕ, List, [], ◌++◌}
use Rattle.nob_pickle.specs.Limits.{Spelt}
use Rattle.nob_pickle.specs.declared.value.Value.{Value}

-- no spelling begins another: of two spellings one of which begins the other nothing is left over, and they spell one value
abbrev pub NoFront : Type 0
NoFront = (front whole rest : List ℕ) (v w : Value) → Spelt front v → Spelt whole w → whole ≡ front ++ rest → (rest ≡ []) × (v ≡ w)
