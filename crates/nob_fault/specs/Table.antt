-- What a shim does with one frame.
use Rattle.std.specs.Prelude.{ℕ, ◌%◌, ◌==◌, if◌then◌else◌, List, [], ◌∷◌, Option, Some, None}
use Rattle.nob_link.specs.declared.parcel.Parcel.{Parcel}
use Rattle.nob_fault.specs.declared.effect.Effect.{Effect}
use Rattle.nob_fault.specs.declared.effect.Effect.TheVariants.{Lose, Go, Twice, Keep}

-- what a word does, by its remainder at 4
abbrev pub effect_of : ℕ → Effect
effect_of word = if word % 4 == 0 then Lose else if word % 4 == 1 then Go else if word % 4 == 2 then Twice else Keep

-- the parcel that is kept back, as a list
abbrev pub listed : Option Parcel → List Parcel
listed None = []
listed (Some parcel) = parcel ∷ []

-- what comes out where a frame meets this effect, and this was kept back before
abbrev pub given_by : Effect → Option Parcel → Parcel → List Parcel
given_by Lose kept parcel = []
given_by Go kept parcel = parcel ∷ listed kept
given_by Twice kept parcel = parcel ∷ parcel ∷ listed kept
given_by Keep kept parcel = listed kept

-- what is kept back then
abbrev pub kept_by : Effect → Option Parcel → Parcel → Option Parcel
kept_by Lose kept parcel = kept
kept_by Go kept parcel = None
kept_by Twice kept parcel = None
kept_by Keep kept parcel = Some parcel
