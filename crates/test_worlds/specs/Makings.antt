-- The entries that the steps of a script make. Steps and entries stand the newest FIRST.
use Rattle.std.specs.Prelude.{◌≡◌, ◌⊎◌, ℕ, List, [], ◌∷◌, ◌++◌, Some}
use Rattle.nob_model_types.specs.declared.entry.Entry.{Entry}
use Rattle.nob_model_types.specs.declared.entry.WorldStep.{WorldStep}
use Rattle.nob_model_journal.specs.Journals.{transmitted_frames}
use Rattle.nob_model_journal.specs.Runs.{IsMadeBy}
use Rattle.nob_world.specs.Worlds.{World, journal, step_fault}
use Rattle.nob_world.specs.declared.error.WorldError.{WorldError}

-- after these entries of n spaces there is no space or no frame for a step
abbrev pub IsAmiss : ℕ → WorldStep → List Entry → Type 0
IsAmiss n step J = (fault : WorldError) × (step_fault n (transmitted_frames J) step ≡ Some fault)

-- the newest entry was made by this step, and of those before it something holds
abbrev pub NewestMadeBy : WorldStep → (before : List Entry → Type 0) → List Entry → Type 0
NewestMadeBy step before [] = ⊥
NewestMadeBy step before (entry ∷ J) = IsMadeBy step entry J × before J

-- entries of n spaces came from steps: each step made one, or there was no space or no frame for it when its turn came
abbrev pub CameFrom : (n : ℕ) → List WorldStep → List Entry → Type 0
CameFrom n [] J = J ≡ []
CameFrom n (step ∷ steps) J = NewestMadeBy step (CameFrom n steps) J ⊎ (IsAmiss n step J × CameFrom n steps J)

-- a world made these steps: whatever its entries came from before, they came from these behind it
abbrev pub Makes : List WorldStep → (old new : World) → Type 0
Makes steps old new = (before : List WorldStep) → CameFrom old.n before (journal old) → CameFrom old.n (steps ++ before) (journal new)
