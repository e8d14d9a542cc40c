-- What the pins of an item that is handed on make of the bundles.
use Rattle.std.specs.Prelude.{◌≡◌, ℕ, List, [], ◌∷◌}
use Rattle.nob_ids.specs.declared.wire_rep.WireRep.{WireRep}
use Rattle.nob_pins.specs.Bundles.{Pinned, bundle_of, Adds}

-- new has the bundles of old, and that of these references to a peer in an item where there are any
abbrev pub AddsPins : List Pinned → List Pinned → (peer item : ℕ) → List WireRep → Type 0
AddsPins old new peer item [] = new ≡ old
AddsPins old new peer item (rep ∷ reps) = Adds old new (bundle_of peer item (rep ∷ reps))
