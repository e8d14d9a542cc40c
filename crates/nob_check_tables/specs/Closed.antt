-- Which sessions have closed at a space, as a list of peers.
use Rattle.std.specs.Prelude.{ℕ, Bool, ◌==◌, not, List, ◌∷◌, filter, if◌then◌else◌}
use Rattle.std.specs.List.{list_any}
use Rattle.nob_model_types.specs.declared.deed.Deed.{Deed}
use Rattle.nob_model_types.specs.declared.deed.Deed.TheVariants.{Closing, Open}

-- whether a peer is one of these
abbrev pub is_among : ℕ → List ℕ → Bool
is_among p peers = list_any (λ other. other == p) peers

-- these with one more, unless it is one of them
abbrev pub with_peer : ℕ → List ℕ → List ℕ
with_peer p peers = if is_among p peers then peers else p ∷ peers

-- these without one
abbrev pub without_peer : ℕ → List ℕ → List ℕ
without_peer p peers = filter (λ other. not (p == other)) peers

-- the peers whose sessions have closed, after a deed
abbrev pub closed_after : Deed → List ℕ → List ℕ
closed_after (Closing p reason cause) peers = with_peer p peers
closed_after (Open p k) peers = without_peer p peers
closed_after (_) peers = peers
