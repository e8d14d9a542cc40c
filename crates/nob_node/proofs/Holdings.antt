-- A hold more, on the next counted reference.
use Rattle.std.proofs.Common.{◌≡◌, ℕ, ◌+◌, ◌≤◌, ◌<◌, List, [], ◌∷◌, ◌++◌, length, drop, slice_get, Some, refl, sym, ap, ◌∙◌, subst}
use Rattle.std.specs.Prelude.{None}
use Prim.Native.Nat.{zero, suc}
use Rattle.std.proofs.lemmas.Option.{none-some, slice_get_within}
use Rattle.nob_ids.specs.declared.wire_rep.WireRep.{WireRep}
use Rattle.nob_node.specs.declared.hold.Hold.{Hold}
use Rattle.nob_node.specs.Holds.{held_by}

-- there is a hold on each reference in front, and the others are ahead
abbrev pub AreHeld : List Hold → List WireRep → Type 0
AreHeld [] all = Unit {0}
AreHeld (hold ∷ holds) [] = ⊥
AreHeld (hold ∷ holds) (rep ∷ all) = (hold.rep ≡ rep) × AreHeld holds all

held_next : (holds : List Hold) (hold : Hold) (all : List WireRep) → AreHeld holds all → slice_get all (length holds) ≡ Some hold.rep → AreHeld (holds ++ hold ∷ []) all
held_next [] hold [] held next = absurd (none-some hold.rep next)
held_next [] hold (rep ∷ all) held next = (cc, tt)
held_next (first ∷ holds) hold [] held next = held
held_next (first ∷ holds) hold (rep ∷ all) held next = (held.0, held_next holds hold all held.1 next)

-- the next one is held too
pub held_more : (holds new : List Hold) (hold : Hold) (all : List WireRep) → AreHeld holds all → slice_get all (length holds) ≡ Some hold.rep → new ≡ holds ++ hold ∷ [] → AreHeld new all
held_more holds new hold all held next is = subst (λ (h : List Hold). AreHeld h all) (sym is) (held_next holds hold all held next)

-- there are more references than holds
pub held_fewer : (holds : List Hold) (rep : WireRep) (all : List WireRep) → AreHeld holds all → slice_get all (length holds) ≡ Some rep → length holds < length all
held_fewer holds rep all held next = slice_get_within all (length holds) rep next

-- where none is ahead each has a hold
pub held_all : (holds : List Hold) (all : List WireRep) → AreHeld holds all → slice_get all (length holds) ≡ None → held_by holds ≡ all
held_all [] [] held none = refl
held_all [] (rep ∷ all) held none = absurd (none-some rep (sym none))
held_all (hold ∷ holds) [] held none = absurd held
held_all (hold ∷ holds) (rep ∷ all) held none = rw (held.0, held_all holds all held.1 none) refl
