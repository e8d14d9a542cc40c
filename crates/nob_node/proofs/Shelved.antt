-- The objects that are taken off a shelf, one place after the other.
use Rattle.std.proofs.Common.{◌≡◌, ℕ, List, [], ◌∷◌, ◌++◌, refl, sym, ap, ◌∙◌}
use Rattle.std.proofs.Common.{append_assoc, append-nil}
use Rattle.nob_node_site.specs.Place.{Place}
use Rattle.nob_node_site.specs.Place.TheVariants.{Here, Away}
use Rattle.nob_node_site.specs.Kept.{Kept}
use Rattle.nob_node_site.specs.Kept.TheVariants.{Own, Agent}
use Rattle.nob_node_site.specs.LeftObject.{LeftObject}
use Rattle.nob_node.specs.Leaving.{left_at, left_on}

-- what stands at a place goes in front of others
in_front : {B : Type 0} (index : ℕ) (place : Place (Kept B)) (behind : List (LeftObject B)) → left_at index place [] ++ behind ≡ left_at index place behind
in_front index (Here (Own object)) behind = refl
in_front index (Here (Agent agent)) behind = refl
in_front index Away behind = refl

-- one place more
pub left_more : {B : Type 0} (done new all : List (LeftObject B)) (first : ℕ × Place (Kept B)) (shelf rest : List (ℕ × Place (Kept B))) → done ++ left_on shelf ≡ all → shelf ≡ first ∷ rest → new ≡ done ++ left_at first.0 first.1 [] → new ++ left_on rest ≡ all
left_more {B = B} done new all first shelf rest before is more = rw (more, append_assoc done (left_at first.0 first.1 []) (left_on rest), in_front first.0 first.1 (left_on rest)) (ap (λ (s : List (ℕ × Place (Kept B))). done ++ left_on s) (sym is) ∙ before)

-- all places
pub left_all : {B : Type 0} (done all : List (LeftObject B)) (shelf : List (ℕ × Place (Kept B))) → done ++ left_on shelf ≡ all → shelf ≡ [] → done ≡ all
left_all {B = B} done all shelf before is = sym (append-nil done) ∙ ap (λ (s : List (ℕ × Place (Kept B))). done ++ left_on s) (sym is) ∙ before
