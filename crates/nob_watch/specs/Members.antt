-- The spaces of a world, each of which is asked the events of its own entries. The newest entry stands FIRST.
use Rattle.std.specs.Prelude.{◌≡◌, ◌≤◌, ◌+◌, ◌-◌, ℕ, Bool, true, false, List, ◌∷◌, length, slice_get, Some, Result, Ok, Err}
use Rattle.nob_ids.specs.declared.limits.Limits.{Limits}
use Rattle.nob_model_types.specs.declared.entry.Entry.{Entry}
use Rattle.nob_model.specs.Right.{IsRight}
use Rattle.nob_model_journal.specs.Journals.{at}
use Rattle.nob_model_invariant.specs.Typed.{IsOfTypes}
use Rattle.nob_space.specs.Spaces.{Owner, StandsFor}

-- these are the limits of each of n spaces, by a list of them: those of space p at place p - 1
abbrev pub AreLimits : ℕ → (ℕ → Limits) → List Limits → Type 0
AreLimits n limits list = (p : ℕ) → 1 ≤ p → p ≤ n → slice_get list (p - 1) ≡ Some (limits p)

-- space p of a world: its number, how many there are, its limits, and what it stands for: its own entries
pub record IsMember (n : ℕ) (list : List Limits) (J : List Entry) (p : ℕ) (space : Owner) : Type 0 where
  pub id : space.id ≡ p
  pub count : space.n ≡ n
  pub its_limits : slice_get list (p - 1) ≡ Some space.limits
  pub stands : StandsFor space (at p J)

-- the spaces of a world: space p at place p - 1
pub record AreMembers (n : ℕ) (list : List Limits) (J : List Entry) (spaces : List Owner) : Type 0 where
  pub each : length spaces ≡ n
  pub stand : (place : ℕ) (space : Owner) → slice_get spaces place ≡ Some space → IsMember n list J (place + 1) space

-- the place of the next entry of each space, counted from 1: that of space p at place p - 1
pub record ArePlaces (n : ℕ) (J : List Entry) (places : List ℕ) : Type 0 where
  pub each : length places ≡ n
  pub next : (p : ℕ) → 1 ≤ p → p ≤ n → slice_get places (p - 1) ≡ Some (length (at p J) + 1)

-- what a space that was asked answered: so, and the spaces stand for the entry too; or otherwise
abbrev pub IsAnswered : ℕ → List Limits → List Entry → List Owner → Entry → Bool → Type 0
IsAnswered n list J spaces entry true = AreMembers n list (entry ∷ J) spaces × IsOfTypes entry × ((its : Limits) → slice_get list (entry.space - 1) ≡ Some its → IsRight entry.space n its entry (at entry.space J))
IsAnswered n list J spaces entry false = (its : Limits) → slice_get list (entry.space - 1) ≡ Some its → IsRight entry.space n its entry (at entry.space J) → ⊥

-- the same, or memory was wanted, and the spaces stand for what they did
abbrev pub IsAsked : {E : Type 0} → ℕ → List Limits → List Entry → List Owner → Entry → Result Bool E → Type 0
IsAsked n list J spaces entry (Ok same) = IsAnswered n list J spaces entry same
IsAsked n list J spaces entry (Err error) = AreMembers n list J spaces
