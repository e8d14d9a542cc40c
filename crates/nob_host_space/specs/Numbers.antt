-- The numbers by which a program in another language knows what a space answered and why it refused.
use Rattle.std.specs.Prelude.{ℕ, Bool, ◌==◌, length, Result, Ok, Err}
use Rattle.nob_ids.specs.Reasons.{reason_number}
use Rattle.nob_ids.specs.declared.wire_rep.WireRep.{WireRep}
use Rattle.nob_pickle.specs.declared.fault.PickleFault.{PickleFault}
use Rattle.nob_pickle.specs.declared.fault.PickleFault.TheVariants as pickles
use Rattle.nob_pickle.specs.declared.fault.PickleError.{PickleError}
use Rattle.nob_pickle.specs.declared.fault.PickleError.TheVariants as pickle_errors
use Rattle.nob_frame.specs.declared.fault.FrameFault.{FrameFault}
use Rattle.nob_frame.specs.declared.fault.FrameFault.TheVariants as frames
use Rattle.nob_frame.specs.declared.fault.FrameError.{FrameError}
use Rattle.nob_frame.specs.declared.fault.FrameError.TheVariants as frame_errors
use Rattle.nob_model_types.specs.declared.answer.Answer.{Answer}
use Rattle.nob_model_types.specs.declared.answer.Answer.TheVariants as answers
use Rattle.nob_model_types.specs.declared.answer.Job.{Job}
use Rattle.nob_model_types.specs.declared.refusal.Refusal.{Refusal}
use Rattle.nob_model_types.specs.declared.refusal.Refusal.TheVariants as refusals
use Rattle.nob_model_types.specs.declared.refusal.Use.{Use}
use Rattle.nob_model_types.specs.declared.refusal.Use.TheVariants as uses
use Rattle.nob_space_state.specs.declared.birth.BirthFault.{BirthFault}
use Rattle.nob_space_state.specs.declared.birth.BirthFault.TheVariants as births
use Rattle.nob_space_state.specs.declared.birth.BirthError.{BirthError}
use Rattle.nob_space_state.specs.declared.birth.BirthError.TheVariants as birth_errors
use Rattle.nob_space_state.specs.declared.error.SpaceError.{SpaceError}
use Rattle.nob_space_state.specs.declared.error.SpaceError.TheVariants as errors
use Rattle.nob_host_space.specs.declared.told.Told.{Told}

-- the number of what still uses an object
abbrev pub use_number : Use → ℕ
use_number uses.Held = 111
use_number uses.InTransit = 112
use_number uses.Listed = 113
use_number uses.Agent = 114

-- the number of a refusal of a space
abbrev pub refusal_number : Refusal → ℕ
refusal_number refusals.NoPeer = 1
refusal_number refusals.Closed = 2
refusal_number refusals.NoObject = 3
refusal_number refusals.NotHeld = 4
refusal_number refusals.QueueFull = 5
refusal_number refusals.SeqEnd = 6
refusal_number refusals.TooBig = 7
refusal_number refusals.NoCall = 8
refusal_number refusals.NotReady = 9
refusal_number refusals.Nothing = 10
refusal_number (refusals.StillUsed used) = use_number used
refusal_number refusals.NoJob = 12
refusal_number refusals.Limit = 13
refusal_number refusals.StillOpen = 15
refusal_number refusals.StillHeld = 16

-- the number of what a space didn't do
abbrev pub error_number : SpaceError → ℕ
error_number (errors.Refused refusal) = refusal_number refusal
error_number errors.OutOfMemory = 14

-- the number of a fault of a birth
abbrev pub birth_fault_number : BirthFault → ℕ
birth_fault_number births.Indexes = 71
birth_fault_number births.Calls = 72
birth_fault_number births.Jobs = 73
birth_fault_number (births.Session peer) = 74
birth_fault_number births.Earlier = 75

-- the number of why a space doesn't begin
abbrev pub birth_error_number : BirthError → ℕ
birth_error_number (birth_errors.Fault fault) = birth_fault_number fault
birth_error_number birth_errors.OutOfMemory = 14

-- whether a status says that memory was wanted
abbrev pub is_wanted : ℕ → Bool
is_wanted status = status == 14

-- whether a status says that it was done
abbrev pub is_done : ℕ → Bool
is_done status = status == 0

-- the number of a fault of a pickle
abbrev pub pickle_fault_number : PickleFault → ℕ
pickle_fault_number pickles.Short = 21
pickle_fault_number pickles.Tag = 22
pickle_fault_number pickles.Bytes = 23
pickle_fault_number pickles.Count = 24
pickle_fault_number pickles.Depth = 25
pickle_fault_number pickles.Trailing = 26
pickle_fault_number pickles.Space = 27
pickle_fault_number pickles.TooBig = 28

-- the number where there is no value or no pickle
abbrev pub pickle_number : PickleError → ℕ
pickle_number (pickle_errors.Fault fault) = pickle_fault_number fault
pickle_number pickle_errors.OutOfMemory = 14

-- the number of a fault of a frame
abbrev pub frame_fault_number : FrameFault → ℕ
frame_fault_number frames.Short = 41
frame_fault_number frames.Magic = 42
frame_fault_number frames.Version = 43
frame_fault_number frames.Kind = 44
frame_fault_number frames.Flags = 45
frame_fault_number frames.Spaces = 46
frame_fault_number frames.Seq = 47
frame_fault_number frames.Ack = 48
frame_fault_number frames.Length = 49
frame_fault_number frames.Reason = 50
frame_fault_number frames.Trailing = 51
frame_fault_number frames.Session = 52

-- the number where there is no frame
abbrev pub frame_number : FrameError → ℕ
frame_number (frame_errors.Fault fault) = frame_fault_number fault
frame_number frame_errors.OutOfMemory = 14

-- nothing is told
abbrev pub nothing : Told
nothing = record { kind = 0; space = 0; method = 0; number = 0; index = 0; call = 0 }

-- a kind alone is told
abbrev pub only : ℕ → Told
only kind = record { kind = kind; space = 0; method = 0; number = 0; index = 0; call = 0 }

-- a kind and a number are told
abbrev pub numbered : (kind number : ℕ) → Told
numbered kind number = record { kind = kind; space = 0; method = 0; number = number; index = 0; call = 0 }

-- a kind and a reference are told
abbrev pub with_reference : ℕ → WireRep → Told
with_reference kind rep = record { kind = kind; space = rep.owner; method = 0; number = 0; index = rep.index; call = 0 }

-- a job is told, but for its value
abbrev pub job_told : Job → Told
job_told job = record { kind = 6; space = job.client; method = job.method; number = job.job; index = job.target; call = job.call }

-- an item of a peer is told
abbrev pub item_told : (kind peer item : ℕ) → Told
item_told kind peer item = record { kind = kind; space = peer; method = 0; number = item; index = 0; call = 0 }

-- what is told of an answer
abbrev pub answer_told : Answer → Told
answer_told (answers.Exported rep) = with_reference 1 rep
answer_told answers.Done = only 2
answer_told (answers.Called call) = numbered 3 call
answer_told (answers.Replied status value) = numbered 4 status
answer_told answers.Ended = only 5
answer_told (answers.Job job) = job_told job
answer_told answers.Finished = only 7
answer_told answers.Dropped = only 8
answer_told (answers.Acted item) = numbered 9 item
answer_told (answers.Closed reason) = numbered 10 (reason_number reason)
answer_told (answers.Settled peer item) = item_told 11 peer item
answer_told (answers.Cleaned rep) = with_reference 12 rep
answer_told answers.Withdrawn = only 13
answer_told (answers.Frames given) = numbered 14 (length given)
answer_told (answers.Took count) = numbered 15 count
answer_told (answers.Opened number) = numbered 17 number

-- the status of a result
abbrev pub status_of : Result Answer Refusal → ℕ
status_of (Ok answer) = 0
status_of (Err refusal) = refusal_number refusal

-- what is told of a result
abbrev pub told_of : Result Answer Refusal → Told
told_of (Ok answer) = answer_told answer
told_of (Err refusal) = nothing
