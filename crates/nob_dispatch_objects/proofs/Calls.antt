-- The arguments that the agent's methods take.
use Rattle.std.proofs.Common.{◌≡◌, ◌≢◌, List, [], ◌∷◌, length, None, refl}
use Rattle.nob_pickle.specs.Shape.{forest}
use Rattle.nob_pickle.specs.declared.value.Value.{Value}
use Rattle.nob_dispatch_objects.specs.Agents.{pair_in}

-- only two trees are a name and a reference
pub not_two : (vs : List Value) → length vs ≢ 2 → pair_in (forest vs) ≡ None
not_two [] other = refl
not_two (v ∷ []) other = refl
not_two (v ∷ w ∷ []) other = absurd (other refl)
not_two (v ∷ w ∷ u ∷ vs) other = refl
