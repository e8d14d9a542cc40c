-- Runs of a world: journals in which each space answered right and each frame that arrived was given before; and by
-- which steps a journal came about. The newest stands FIRST.
use Prim.Native.Nat.{zero}
use Rattle.std.specs.Prelude.{◌≡◌, ◌≤◌, ⊤, ℕ, suc, Bool, true, false, List, [], ◌∷◌, Option, Some, None, slice_get}
use Rattle.std.specs.List.{Contains}
use Rattle.nob_ids.specs.declared.limits.Limits.{Limits}
use Rattle.nob_frame.specs.declared.frame.Frame.{Frame}
use Rattle.nob_model_types.specs.declared.event.Event.{Event}
use Rattle.nob_model_types.specs.declared.event.Event.TheVariants.{Arrive}
use Rattle.nob_model_types.specs.declared.entry.Entry.{Entry}
use Rattle.nob_model_types.specs.declared.entry.WorldStep.{WorldStep}
use Rattle.nob_model_types.specs.declared.entry.WorldStep.TheVariants.{Do, Deliver}
use Rattle.nob_model.specs.Right.{IsRight}
use Rattle.nob_model_journal.specs.Journals.{at, transmitted_frames}

-- a frame that arrives was given by an earlier Transmit: one that never arrives is lost, and one may arrive any number of times, in any order
abbrev pub ArrivesGiven : Event → List Entry → Type 0
ArrivesGiven (Arrive frame) J = Contains (transmitted_frames J) frame
ArrivesGiven (_) J = ⊤

-- an entry of a world of n spaces, each with limits of its own, after the entries before
pub record IsOfWorld (n : ℕ) (limits : ℕ → Limits) (entry : Entry) (J : List Entry) : Type 0 where
  -- it is of one of the spaces
  pub first : 1 ≤ entry.space
  pub last : entry.space ≤ n
  -- its result is the right one for this space's entries
  pub is_right : IsRight entry.space n (limits entry.space) entry (at entry.space J)
  -- what arrives was given
  pub arrives : ArrivesGiven entry.event J

-- a run of a world of n spaces
abbrev pub WorldRun : (n : ℕ) → (ℕ → Limits) → List Entry → Type 0
WorldRun n limits [] = ⊤
WorldRun n limits (entry ∷ J) = IsOfWorld n limits entry J × WorldRun n limits J

-- the frame of this number among frames, counted from 1
abbrev pub frame_of : ℕ → List Frame → Option Frame
frame_of zero frames = None
frame_of (suc place) frames = slice_get frames place

-- whether an event is the arrival of a frame
abbrev pub is_arrival : Event → Bool
is_arrival (Arrive frame) = true
is_arrival _ = false

-- a step made an entry after those before: of the space and event that it names, which is no arrival, or of the frame that it delivers where it goes
abbrev pub IsMadeBy : WorldStep → Entry → List Entry → Type 0
IsMadeBy (Do space event) entry J = (is_arrival event ≡ false) × (entry.space ≡ space) × (entry.event ≡ event)
IsMadeBy (Deliver number) entry J = (frame : Frame) × (frame_of number (transmitted_frames J) ≡ Some frame) × (entry.space ≡ frame.to) × (entry.event ≡ Arrive frame)

-- a journal came from steps, the last of which stands first: they are as many, and each made its entry
abbrev pub From : List WorldStep → List Entry → Type 0
From [] [] = ⊤
From (step ∷ steps) (entry ∷ J) = IsMadeBy step entry J × From steps J
From _ _ = ⊥
