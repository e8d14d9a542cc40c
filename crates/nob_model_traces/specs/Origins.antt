-- Where the frames that arrive come from. Merged entries stand oldest first, a journal newest FIRST.
use Rattle.std.specs.Prelude.{◌≡◌, ℕ, ◌+◌, List, ◌∷◌, ◌++◌, length, reverse}
use Rattle.std.specs.List.{Contains}
use Rattle.nob_frame.specs.declared.frame.Frame.{Frame}
use Rattle.nob_model_types.specs.declared.entry.Entry.{Entry}
use Rattle.nob_model_types.specs.declared.event.Event.TheVariants.{Arrive}
use Rattle.nob_model_journal.specs.Journals.{at, transmitted_frames, Each}
use Rattle.nob_model_journal.specs.Runs.{ArrivesGiven}
use Rattle.nob_model_traces.specs.declared.fault.CheckFault.{CheckFault}
use Rattle.nob_model_traces.specs.declared.fault.CheckFault.TheVariants as faults

-- an entry of these transmitted the frame
abbrev pub IsTransmitted : Frame → List Entry → Type 0
IsTransmitted frame merged = Contains (transmitted_frames (reverse merged)) frame

-- each frame that arrives was transmitted by an entry before, whether its arrival was answered or refused
abbrev pub HaveOrigins : List Entry → Type 0
HaveOrigins merged = Each (λ entry J. ArrivesGiven entry.event J) (reverse merged)

-- the entry at this place of a space, counted from 1, is the first arrival of a frame that no entry before it transmitted
pub record IsFirstAlone (merged : List Entry) (space place : ℕ) (frame : Frame) : Type 0 where
  pub before : List Entry
  pub arrival : Entry
  pub after : List Entry
  pub merged_is : merged ≡ before ++ arrival ∷ after
  pub arrives : arrival.event ≡ Arrive frame
  pub space_is : arrival.space ≡ space
  pub place_is : place ≡ length (at space before) + 1
  pub have_origins : HaveOrigins before
  pub has_none : IsTransmitted frame before → ⊥

-- what an arrival without an origin before it is refused for: C2 where no entry transmitted its frame, else C3
pub data IsRefusedFor (merged : List Entry) (space place : ℕ) (frame : Frame) (fault : CheckFault) : Type 0 where
  nowhere : (IsTransmitted frame merged → ⊥) → fault ≡ faults.NoOrigin space place → IsRefusedFor merged space place frame fault
  later : IsTransmitted frame merged → fault ≡ faults.Stamp space place → IsRefusedFor merged space place frame fault

-- what the first of all arrivals without an origin before it is refused for
abbrev pub IsOriginFault : List Entry → CheckFault → Type 0
IsOriginFault merged fault = (space place : ℕ) × (frame : Frame) × IsFirstAlone merged space place frame × IsRefusedFor merged space place frame fault
