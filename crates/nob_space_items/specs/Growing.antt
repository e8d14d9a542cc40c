-- Room that is made, which changes nothing else.
use Rattle.std.specs.Prelude.{◌≡◌, ℕ, ◌-◌, ◌≤◌, List, length, slice_get, Some}
use Rattle.std.specs.List.{AllByRecursion}
use Rattle.nob_ids.specs.declared.wire_rep.WireRep.{WireRep}
use Rattle.nob_session.specs.Stands.{Roomy}
use Rattle.nob_table.specs.Table.{Stays}
use Rattle.nob_space_state.specs.Parts.{State}

-- the owners of references are among so many spaces
abbrev pub AreAmong : ℕ → List WireRep → Type 0
AreAmong n reps = AllByRecursion (λ rep. (1 ≤ rep.owner) × (rep.owner ≤ n)) reps

-- each end is what it was, and has as much room at least
pub record SameEnds (old new : List Roomy) : Type 0 where
  pub each : length new ≡ length old
  pub ends : (place : ℕ) (end : Roomy) → slice_get new place ≡ Some end → (before : Roomy) × (slice_get old place ≡ Some before) × (end.end ≡ before.end) × (before.room ≤ end.room)

-- the end with a reference's owner has room for so many items
abbrev pub HasRoom : ℕ → List Roomy → WireRep → Type 0
HasRoom count ends rep = (end : Roomy) → slice_get ends (rep.owner - 1) ≡ Some end → count ≤ end.room

-- so have the ends with the owners of some references
abbrev pub HaveRoom : ℕ → List Roomy → List WireRep → Type 0
HaveRoom count ends reps = AllByRecursion (HasRoom count ends) reps

-- new is what old was, and has as much room at least
pub record Grows (old new : State) : Type 0 where
  pub sessions : SameEnds old.sessions new.sessions
  pub table : Stays old.table new.table
  pub dirty : new.dirty ≡ old.dirty
  pub pins : new.pins ≡ old.pins
  pub work : new.work ≡ old.work
  pub awaited : new.awaited ≡ old.awaited
  pub calls : new.calls ≡ old.calls
  pub jobs : new.jobs ≡ old.jobs
