-- Holds: what a node has of the references in a value.
use Rattle.std.specs.Prelude.{◌≡◌, List, [], ◌∷◌, map, filter, Option, Some, None}
use Rattle.nob_ids.specs.declared.wire_rep.WireRep.{WireRep}
use Rattle.nob_ids.specs.Names.{is_counted}
use Rattle.nob_pickle.specs.Spelling.{refs_in}
use Rattle.nob_pickle.specs.declared.value.Value.{Value}
use Rattle.nob_node_site.specs.Placed.{Placed}
use Rattle.nob_node.specs.declared.hold.Hold.{Hold}
use Rattle.nob_node.specs.declared.hold.Returned.{Returned}
use Rattle.nob_node.specs.declared.hold.Returned.TheVariants as returns

-- the references that holds are on
abbrev pub held_by : List Hold → List WireRep
held_by holds = map (λ hold. hold.rep) holds

-- the counted references in a value, in reading order, repeats included
abbrev pub counted_in : Value → List WireRep
counted_in value = filter is_counted (refs_in value)

-- the object of a hold was put at its index
abbrev pub IsPlaced : Hold → Type 0
IsPlaced hold = IfSomeOf hold.placed
  where
    IfSomeOf : Option Placed → Type 0
    IfSomeOf None = ⊥
    IfSomeOf (Some placed) = placed.index ≡ hold.rep.index

-- what was returned is an answer with this hold and no other
abbrev pub IsOneHold : Returned → Hold → Type 0
IsOneHold (returns.Replied status value holds) hold = (status ≡ 0) × (holds.items ≡ hold ∷ [])
IsOneHold returns.Ended hold = ⊥
