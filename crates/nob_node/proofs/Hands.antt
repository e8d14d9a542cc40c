-- Hands that end, one after the other.
use Rattle.std.proofs.Common.{◌≡◌, ◌==◌, ◌≤◌, ◌++◌, ℕ, suc, zero, arith, Bool, false, true≢false, sym, ◌∙◌, List, [], ◌∷◌, length, drop, get_or, subst}
use Rattle.nob_node_site.specs.Serving.{Serving}
use Rattle.nob_node_site.specs.Errand.{Errand}
use Rattle.nob_dispatch_lanes.specs.declared.ends.LaneTake.{LaneTake}
use Rattle.nob_node_site.specs.Place.{Place}
use Rattle.nob_node_site.specs.Kept.{Kept}
use Rattle.nob_node.specs.Leaving.{HandCameBack, HandsCameBack}

-- where there isn't none there is one
pub some : (count all : ℕ) (empty : Bool) → empty ≡ false → empty ≡ (count == 0) → count ≡ all → 1 ≤ all
some zero all empty not_empty is same = absurd (true≢false (sym is ∙ not_empty))
some (suc count) all empty not_empty is same = omega (arith, same)

-- all came back of the first hand, and then of the others
pub one_more : {B : Type 0} (hands others : List (Serving (Kept B))) (hand : Serving (Kept B)) (before with_end after : List (LaneTake (Errand (Kept B)))) (end : LaneTake (Errand (Kept B))) (old between new : List (ℕ × Place (Kept B))) → 1 ≤ length hands → hand ≡ get_or hands 0 hand → others ≡ drop 1 hands → with_end ≡ before ++ end ∷ [] → HandCameBack hand end old between → HandsCameBack others with_end after between new → HandsCameBack hands before after old new
one_more [] others hand before with_end after end old between new filled first rest ends one back = absurd (omega arith)
one_more {B} (h ∷ hs) others hand before with_end after end old between new filled first rest ends one back = (
  end,
  between,
  subst (λ (x : Serving (Kept B)). HandCameBack x end old between) first one,
  subst (λ (x : List (Serving (Kept B))). HandsCameBack x (before ++ end ∷ []) after between new) rest (subst (λ (x : List (LaneTake (Errand (Kept B)))). HandsCameBack others x after between new) ends back),
)
