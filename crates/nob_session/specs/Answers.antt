-- Answers of a session as those of which the definitions speak, and when a frame that arrives wants memory.
use Rattle.std.specs.Prelude.{◌≡◌, ℕ, true, List, None, Result, Ok, Err}
use Rattle.nob_frame.specs.declared.frame.Frame.{Frame}
use Rattle.nob_frame.specs.Kinds.{is_data}
use Rattle.nob_model_session.specs.declared.refusal.EndRefusal.{EndRefusal}
use Rattle.nob_model_session.specs.declared.entry.Arrived.{Arrived}
use Rattle.nob_model_session.specs.declared.entry.Arrived.TheVariants as arrived
use Rattle.nob_model_session.specs.declared.entry.EndEntry.{EndEntry}
use Rattle.nob_model_session.specs.End.{is_open, is_present, accepted_count, is_in_reach, payload}
use Rattle.nob_model_session.specs.Right.{right_arrive, taken_by}
use Rattle.nob_session.specs.declared.error.SessionError.{SessionError}
use Rattle.nob_session.specs.declared.error.SessionError.TheVariants.{Refused, OutOfMemory}
use Rattle.nob_session.specs.declared.closed.Arrival.{Arrival}
use Rattle.nob_session.specs.declared.closed.Arrival.TheVariants as arrival

-- what an arriving frame did, as plain data
abbrev pub arrived_of : Arrival → Arrived
arrived_of (arrival.Took n) = arrived.Took n
arrived_of (arrival.Closed ending) = arrived.Closed ending

-- P of the answer, seen by view, unless memory ran out
abbrev pub Answered : {A B : Type 0} → (A → B) → Result A SessionError → (Result B EndRefusal → Type 0) → Type 0
Answered view (Ok x) P = P (Ok (view x))
Answered view (Err (Refused refusal)) P = P (Err refusal)
Answered view (Err OutOfMemory) P = Unit {0}

-- an open end keeps this frame's payload anew: the frame is of the end's session, heard and in reach, and no other with its number was kept or accepted
pub record KeepsAnew (me peer : ℕ) (frame : Frame) (L : List EndEntry) : Type 0 where
  pub heard : right_arrive me peer frame L ≡ Ok (arrived.Took (taken_by frame L))
  pub open_end : is_open L ≡ true
  pub present : is_present frame L ≡ true
  pub is_item : is_data frame.kind ≡ true
  pub in_reach : is_in_reach (accepted_count L) frame.seq ≡ true
  pub anew : payload frame.seq L ≡ None
