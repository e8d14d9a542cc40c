-- Why a space doesn't begin.
use Rattle.std.specs.Prelude.{ℕ}
use Rattle.nob_model_births.specs.Births.{Birth, IsInRange}
use Rattle.nob_space_state.specs.Births.{IsFault}
use Rattle.nob_space_state.specs.declared.birth.BirthError.{BirthError}
use Rattle.nob_space_state.specs.declared.birth.BirthError.TheVariants as errors

-- why a space doesn't begin: the fault of the birth; or memory was wanted, for a birth that is in range
abbrev pub IsError : (s n : ℕ) → Birth → BirthError → Type 0
IsError s n birth (errors.Fault fault) = IsFault s n birth fault
IsError s n birth errors.OutOfMemory = IsInRange s n birth
