-- What a shim does with all parcels that pass it. In the lists of parcels the newest stands first.
use Rattle.std.specs.Prelude.{ℕ, ◌+◌, nat_lt, if◌then◌else◌, List, [], ◌∷◌, ◌++◌, length, slice_index_or, Option, None}
use Rattle.nob_link.specs.declared.parcel.Parcel.{Parcel}
use Rattle.nob_link.specs.declared.parcel.Parcel.TheVariants.{Frame, End}
use Rattle.nob_fault.specs.declared.effect.Effect.{Effect}
use Rattle.nob_fault.specs.Table.{effect_of, listed, given_by, kept_by}

-- a shim: its words, its place among them, and the parcel that it keeps back
pub record Shimming : Type 0 where
  pub words : List ℕ
  pub place : ℕ
  pub kept : Option Parcel

-- a new shim with these words
abbrev pub opening : List ℕ → Shimming
opening words = record { words = words; place = 0; kept = None }

-- what the word at the shim's place does; where the words are used up, each counts as 1
abbrev pub effect_at : Shimming → Effect
effect_at shim = effect_of (slice_index_or shim.words shim.place 1)

-- the place after one word more, as long as there are words
abbrev pub place_after : Shimming → ℕ
place_after shim = if nat_lt shim.place (length shim.words) then shim.place + 1 else shim.place

-- what comes out where the parcel passes: the end uses no word, and comes after what is kept back
abbrev pub outcome : Shimming → Parcel → List Parcel
outcome shim (Frame stamp frame) = given_by (effect_at shim) shim.kept (Frame stamp frame)
outcome shim End = listed shim.kept ++ End ∷ []

-- the shim once the parcel has passed
abbrev pub passed : Shimming → Parcel → Shimming
passed shim (Frame stamp frame) =
    record { words = shim.words; place = place_after shim; kept = kept_by (effect_at shim) shim.kept (Frame stamp frame) }
passed shim End = record { words = shim.words; place = shim.place; kept = None }

-- the shim with these words once these parcels have passed
abbrev pub shim_after : List ℕ → List Parcel → Shimming
shim_after words [] = opening words
shim_after words (parcel ∷ earlier) = passed (shim_after words earlier) parcel

-- all that a shim with these words gives for these parcels, what came out first standing first
abbrev pub output : List ℕ → List Parcel → List Parcel
output words [] = []
output words (parcel ∷ earlier) = output words earlier ++ outcome (shim_after words earlier) parcel
