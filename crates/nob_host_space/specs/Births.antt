-- A host of a space that begins at a birth, and in numbers why there is none.
use Rattle.std.specs.Prelude.{◌≡◌, ℕ, ◌-◌, List, slice_index_or}
use Rattle.nob_model_types.specs.declared.entry.Entry.{Entry}
use Rattle.nob_model_lives.specs.Births.{Birth, IsBorn, IsInRange}
use Rattle.nob_space.specs.Spaces.{StandsFor}
use Rattle.nob_space.specs.Births.{IsError}
use Rattle.nob_space_state.specs.declared.birth.BirthError.{BirthError}
use Rattle.nob_host_space.specs.declared.host.Host.{Host}
use Rattle.nob_host_space.specs.Asked.{AreNumbers, IsFresh}
use Rattle.nob_host_space.specs.Numbers.{birth_error_number}

-- the birth behind so many indexes, calls and jobs, with these numbers of the sessions: that with space p at place p - 1
abbrev pub birth_with : (indexes calls jobs : ℕ) → List ℕ → Birth
birth_with indexes calls jobs sessions = record { indexes = indexes; calls = calls; jobs = jobs; session = λ p. slice_index_or sessions (p - 1) 0 }

-- numbers of which a space can be made, and as many session numbers as spaces
pub record AreBirthNumbers (id n window retry count : ℕ) : Type 0 where
  pub space : AreNumbers id n window retry
  pub sessions : count ≡ n

-- a host of a space with these numbers that began at this birth, and nothing is kept beside it
pub record IsBegun (host : Host) (number spaces most_given most_ticks : ℕ) (birth : Birth) : Type 0 where
  pub fresh : IsFresh host number spaces most_given most_ticks
  pub in_range : IsInRange number spaces birth
  pub stands : (L : List Entry) → IsBorn number spaces host.space.limits birth L → StandsFor host.space L

-- the status is the number of why a space doesn't begin so
pub record RefusesBirth (number spaces : ℕ) (birth : Birth) (status : ℕ) : Type 0 where
  pub error : BirthError
  pub is_error : IsError number spaces birth error
  pub number_is : status ≡ birth_error_number error
