-- What each space has heard of each other one, in a table of all spaces that there may be.
use Rattle.std.specs.Prelude.{◌≡◌, ℕ, ◌+◌, ◌-◌, ◌*◌, false, ◌==◌, List, length, slice_get, Some, Result}
use Rattle.nob_ids.specs.Names.{IsSpace}
use Rattle.nob_model_types.specs.declared.answer.Answer.{Answer}
use Rattle.nob_model_types.specs.declared.entry.Entry.{Entry}
use Rattle.nob_model_types.specs.declared.event.Event.{Event}
use Rattle.nob_model_types.specs.declared.refusal.Refusal.{Refusal}
use Rattle.nob_recall.specs.declared.heard.Heard.{Heard}
use Rattle.nob_recall.specs.Hearing.{heard, heard_by}

-- so many rows has the table
abbrev pub rows : ℕ
rows = 1024

-- the place of what space b has heard of space a
abbrev pub row_of : (a b : ℕ) → ℕ
row_of a b = (a - 1) * 32 + (b - 1)

-- a table says what each space has heard of each other
pub record TableStands (table : List Heard) (J : List Entry) : Type 0 where
  pub count : length table ≡ rows
  pub each : (a b : ℕ) → IsSpace a → IsSpace b → slice_get table (row_of a b) ≡ Some (heard a b J)

-- an event says nothing of any space but this one
abbrev pub IsAbout : ℕ → Event → Type 0
IsAbout a event = (c : ℕ) (result : Result Answer Refusal) (h : Heard) → (c == a) ≡ false → heard_by c event result h ≡ h
