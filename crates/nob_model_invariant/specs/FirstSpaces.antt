-- Whom the deeds of a space speak of: whether all are among the first n spaces.
use Rattle.std.specs.Prelude.{◌≡◌, ⊤, ℕ, List, [], ◌∷◌, Some}
use Rattle.std.specs.List.{AllByRecursion}
use Rattle.nob_ids.specs.Names.{IsSpaceOf}
use Rattle.nob_ids.specs.declared.wire_rep.WireRep.{WireRep}
use Rattle.nob_item.specs.Kinds.{counted_in}
use Rattle.nob_item.specs.declared.item.Item.{Item}
use Rattle.nob_model_types.specs.Sessions.{item_at}
use Rattle.nob_model_types.specs.declared.deed.Deed.{Deed}
use Rattle.nob_model_types.specs.declared.deed.Deed.TheVariants.{Call, Act, Clean}

-- the owner of a reference is one of the first n spaces
abbrev pub IsOfFirst : ℕ → WireRep → Type 0
IsOfFirst n rep = IsSpaceOf n rep.owner

-- a deed speaks of the first n spaces alone: whom a Call goes to, whose item is acted on, the owners of its counted references or of what is given up
abbrev pub SpeaksOfFirst : ℕ → Deed → List Deed → Type 0
SpeaksOfFirst n (Call target method value call) D = IsOfFirst n target
SpeaksOfFirst n (Act p k) D = IsSpaceOf n p × ((item : Item) → item_at p k D ≡ Some item → AllByRecursion (IsOfFirst n) (counted_in item))
SpeaksOfFirst n (Clean rep) D = IsOfFirst n rep
SpeaksOfFirst n (_) D = ⊤

-- all deeds do
abbrev pub AmongFirst : ℕ → List Deed → Type 0
AmongFirst n [] = ⊤
AmongFirst n (deed ∷ D) = SpeaksOfFirst n deed D × AmongFirst n D
