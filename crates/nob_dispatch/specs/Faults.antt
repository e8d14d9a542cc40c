-- The errors of a keeper: which are its own answers, and for which a hand gives up.
use Rattle.std.specs.Prelude.{◌≡◌, ◌⊎◌, Bool, true, false, Option, Some}
use Rattle.nob_dispatch.specs.KeeperError.{KeeperError}
use Rattle.nob_dispatch.specs.KeeperError.TheVariants as errors

-- whether an error of the keeper is want of memory
abbrev pub is_memory : KeeperError → Bool
is_memory errors.OutOfMemory = true
is_memory errors.Stamp = false
is_memory errors.Seats = false
is_memory errors.Size = false
is_memory errors.NoTrace = false

-- an error that isn't want of memory is one that the keeper answered a call by
abbrev pub IsAnswered : (answered : KeeperError → Type 0) → KeeperError → Type 0
IsAnswered answered error = is_memory error ≡ false → answered error

-- what makes a hand give up made it so before, or the keeper answered it
abbrev pub GivesUpFor : (answered : KeeperError → Type 0) → (before after : Option KeeperError) → Type 0
GivesUpFor answered before after = (after ≡ before) ⊎ ((error : KeeperError) × (after ≡ Some error) × answered error)
