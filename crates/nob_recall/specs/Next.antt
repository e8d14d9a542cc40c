-- Whether the entry that comes next can be passed, and what is wrong with it else. The entries before it stand newest FIRST.
use Rattle.std.specs.Prelude.{◌≡◌, ◌⊎◌, ℕ, ◌+◌, List, length, Option, Some, None, if◌then◌else◌}
use Rattle.nob_ids.specs.declared.limits.Limits.{Limits}
use Rattle.nob_frame.specs.declared.frame.Frame.{Frame}
use Rattle.nob_model_types.specs.declared.entry.Entry.{Entry}
use Rattle.nob_model_types.specs.declared.event.Event.TheVariants as events
use Rattle.nob_model.specs.Right.{IsRight}
use Rattle.nob_model_journal.specs.Journals.{at}
use Rattle.nob_recall.specs.Remembering.{IsIn, ArrivesRemembered, memory, is_past_in}
use Rattle.nob_recall.specs.declared.fault.WatchFault.{WatchFault}
use Rattle.nob_recall.specs.declared.fault.WatchFault.TheVariants as faults

-- an entry of a world of n spaces is the right answer of its space after the entries before it
abbrev pub IsRightNext : ℕ → Limits → Entry → List Entry → Type 0
IsRightNext n limits entry J = IsRight entry.space n limits entry (at entry.space J)

-- an entry can be passed: its result is right, and its frame, where one arrives, is remembered
pub record CanPass (n : ℕ) (limits : Limits) (span : ℕ) (entry : Entry) (J : List Entry) : Type 0 where
  pub right : IsRightNext n limits entry J
  pub arrives : ArrivesRemembered span entry.event J

-- the place of the next entry of its space, counted from 1
abbrev pub place_of : Entry → List Entry → ℕ
place_of entry J = length (at entry.space J) + 1

-- what is said of the arrival at this place of a space of a frame that isn't remembered: that it came too late to be judged, if it can bring nothing more; else that it was never transmitted
abbrev pub stray_fault : Frame → List Entry → (space place : ℕ) → WatchFault
stray_fault frame J space place = if is_past_in J frame then faults.Late space place else faults.NoOrigin space place

-- this is wrong with the arrival of a frame: nothing where it is remembered
abbrev pub IsArrivalFault : ℕ → Frame → List Entry → (space place : ℕ) → Option WatchFault → Type 0
IsArrivalFault span frame J space place None = IsIn frame (memory span J)
IsArrivalFault span frame J space place (Some fault) = (IsIn frame (memory span J) → ⊥) × (fault ≡ stray_fault frame J space place)

-- an entry is right, but the frame that arrives by it isn't remembered
pub record IsStray (n : ℕ) (limits : Limits) (span : ℕ) (entry : Entry) (J : List Entry) (fault : WatchFault) : Type 0 where
  pub right : IsRightNext n limits entry J
  pub frame : Frame
  pub arrives : entry.event ≡ events.Arrive frame
  pub stray : (IsIn frame (memory span J) → ⊥) × (fault ≡ stray_fault frame J entry.space (place_of entry J))

-- this is wrong with the next entry: its result isn't right; or it is, and its frame isn't remembered
abbrev pub IsNextFault : ℕ → Limits → ℕ → Entry → List Entry → WatchFault → Type 0
IsNextFault n limits span entry J fault = ((fault ≡ faults.NotARun entry.space (place_of entry J)) × (IsRightNext n limits entry J → ⊥)) ⊎ IsStray n limits span entry J fault
