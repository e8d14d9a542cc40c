-- What a scene is: spaces in threads of one process, of which the first exports a counter that the others call.
use Rattle.std.specs.Prelude.{◌≤◌, ℕ, Bool}
use Rattle.nob_keeper.specs.Keep.{Keep}
use Rattle.nob_keeper.specs.Keep.TheVariants.{All, Nothing}

-- a scene: its spaces, the workers of each, calls in all, frames of ten that are lost, where chances start, whether chains are printed, and what the nodes keep of their entries
pub record Setting : Type 0 where
  pub spaces : ℕ
  pub workers : ℕ
  pub calls : ℕ
  pub loss : ℕ
  pub seed : ℕ
  pub traces : Bool
  pub keep : Keep

-- the number lies from the lowest to the highest
abbrev pub IsBetween : (lowest highest : ℕ) → ℕ → Type 0
IsBetween lowest highest n = (lowest ≤ n) × (n ≤ highest)

-- so many calls there are at most, by what the nodes keep
abbrev pub most_calls : Keep → ℕ
most_calls All = 10000
most_calls Nothing = 1000000000

-- so many spaces there are at most, by what the nodes keep
abbrev pub most_spaces : Keep → ℕ
most_spaces All = 8
most_spaces Nothing = 32

-- there are at least 2 spaces and at most so many, 1 to 16 workers and at most so many calls, by what the nodes keep, and at most 9 frames of ten are lost
abbrev pub CanBePlayed : Keep → (spaces workers calls loss : ℕ) → Type 0
CanBePlayed keep spaces workers calls loss = IsBetween 2 (most_spaces keep) spaces × IsBetween 1 16 workers × IsBetween 0 (most_calls keep) calls × IsBetween 0 9 loss
