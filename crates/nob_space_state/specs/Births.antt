-- Where a life of a space begins, and why it can't begin so.
use Rattle.std.specs.Prelude.{◌≡◌, ◌≤◌, ◌<◌, ℕ, ◌-◌, ◌&&◌, nat_le, Bool, true, false, slice_index_or}
use Rattle.nob_model.specs.Right.{last_number}
use Rattle.nob_model_session.specs.End.{last_session}
use Rattle.nob_model_types.specs.Sessions.{is_peer}
use Rattle.nob_model_lives.specs.Births as lives
use Rattle.nob_model_lives.specs.Births.{IsNewBirth, CanHaveHad}
use Rattle.nob_space_state.specs.declared.birth.Birth.{Birth}
use Rattle.nob_space_state.specs.declared.birth.BirthFault.{BirthFault}
use Rattle.nob_space_state.specs.declared.birth.BirthFault.TheVariants as faults

-- the numbers of a birth, with the session of each space by its number
abbrev pub life_of : Birth → lives.Birth
life_of birth = record { indexes = birth.indexes; calls = birth.calls; jobs = birth.jobs; session = λ p. slice_index_or birth.sessions (p - 1) 0 }

-- whether the number of the session with p is one of these
abbrev pub is_within : lives.Birth → (low high p : ℕ) → Bool
is_within birth low high p = nat_le low (birth.session p) && nat_le (birth.session p) high

-- of no peer is it one of these
abbrev pub NoneWithin : (s n : ℕ) → lives.Birth → (low high : ℕ) → Type 0
NoneWithin s n birth low high = (p : ℕ) → is_peer s n p ≡ true → is_within birth low high p ≡ false

-- each session has a number that there is
abbrev pub AreNumbers : (s n : ℕ) → lives.Birth → Type 0
AreNumbers s n birth = (p : ℕ) → is_peer s n p ≡ true → birth.session p ≤ last_session

-- p is the first peer of which it is
pub record IsFirstWithin (s n : ℕ) (birth : lives.Birth) (low high p : ℕ) : Type 0 where
  pub peer : is_peer s n p ≡ true
  pub within : is_within birth low high p ≡ true
  pub first : (q : ℕ) → is_peer s n q ≡ true → q < p → is_within birth low high q ≡ false

-- p is the first peer whose session wasn't opened anew: its number is below 2
abbrev pub IsFirstUnopened : (s n : ℕ) → lives.Birth → ℕ → Type 0
IsFirstUnopened s n birth p = IsFirstWithin s n birth 0 1 p

-- the session with each peer was opened anew
abbrev pub AreOpenedAnew : (s n : ℕ) → lives.Birth → Type 0
AreOpenedAnew s n birth = NoneWithin s n birth 0 1

-- none of the numbers of what was before is above its limit
pub record AreLow (birth : lives.Birth) : Type 0 where
  pub indexes : birth.indexes ≤ last_number
  pub calls : birth.calls ≤ last_number
  pub jobs : birth.jobs ≤ last_number

-- why a space can't begin so: each fault where it is the first
abbrev pub IsFault : (s n : ℕ) → lives.Birth → BirthFault → Type 0
IsFault s n birth faults.Indexes = last_number < birth.indexes
IsFault s n birth faults.Calls = (birth.indexes ≤ last_number) × (last_number < birth.calls)
IsFault s n birth faults.Jobs = (birth.indexes ≤ last_number) × (birth.calls ≤ last_number) × (last_number < birth.jobs)
IsFault s n birth (faults.Session p) = (IsNewBirth s n birth → ⊥) × AreLow birth × IsFirstUnopened s n birth p
IsFault s n birth faults.Earlier = AreLow birth × AreOpenedAnew s n birth × (CanHaveHad s n birth → ⊥)
