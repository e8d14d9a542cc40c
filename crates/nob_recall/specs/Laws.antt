-- What is true of the frames that are remembered.
use Rattle.std.specs.Prelude.{◌≡◌, ◌⊎◌, ℕ, true, List}
use Rattle.std.specs.List.{Contains}
use Rattle.nob_frame.specs.declared.frame.Frame.{Frame}
use Rattle.nob_model_types.specs.declared.entry.Entry.{Entry}
use Rattle.nob_model_journal.specs.Journals.{transmitted_frames}
use Rattle.nob_recall.specs.Remembering.{IsIn, memory, is_past_in}

-- a frame that is remembered was transmitted
abbrev pub RememberedWereTransmitted : Type 0
RememberedWereTransmitted = (span : ℕ) (J : List Entry) (frame : Frame) → IsIn frame (memory span J) → Contains (transmitted_frames J) frame

-- a frame that was transmitted is remembered, or can bring nothing more: so one that could, and isn't remembered, never was
abbrev pub ForgottenArePast : Type 0
ForgottenArePast = (span : ℕ) (J : List Entry) (frame : Frame) → Contains (transmitted_frames J) frame → IsIn frame (memory span J) ⊎ (is_past_in J frame ≡ true)
