-- A stream of frames of version 2 that comes in pieces.
use Rattle.std.specs.Prelude.{◌≡◌, ◌≢◌, ℕ, ◌+◌, nat_lt, if◌then◌else◌, List, [], ◌∷◌, ◌++◌, length, Option, Some, None, Result, Ok, Err, IsOk}
use Rattle.std.specs.List.{flat_map, AllByRecursion}
use Rattle.nob_bytes.specs.Numbers.{field}
use Rattle.nob_frame.specs.declared.fault.FrameFault.{FrameFault}
use Rattle.nob_frame.specs.declared.fault.FrameFault.TheVariants as faults
use Rattle.nob_frame.specs.declared.fault.FrameError.{FrameError}
use Rattle.nob_frame.specs.declared.fault.FrameError.TheVariants.{Fault, OutOfMemory}
use Rattle.nob_frame.specs.declared.frame.Frame.{Frame}
use Rattle.nob_frame.specs.declared.version.Version.TheVariants.{Two}
use Rattle.nob_frame.specs.Spelling.{Fits, spelling}
use Rattle.nob_frame.specs.Reading.{frame_at}

-- no spelling of a frame begins the bytes
abbrev pub BeginsNone : List ℕ → Type 0
BeginsNone bytes = (frame : Frame) (after : List ℕ) → Fits Two frame → bytes ≢ spelling Two frame ++ after

-- the bytes are the spellings of these frames, one after the other, and then a rest that begins with no whole frame
pub record Splits (bytes : List ℕ) (frames : List Frame) (rest : List ℕ) : Type 0 where
  pub whole : bytes ≡ flat_map (spelling Two) frames ++ rest
  pub each : AllByRecursion (Fits Two) frames
  pub none : BeginsNone rest

-- what a Feed is: the bytes that it keeps, or the fault that it answers from now on
abbrev pub Kept : Type 0
Kept = Result (List ℕ) FrameFault

-- a rest's first fault is F1, so that more bytes may complete it
abbrev pub IsCut : List ℕ → Type 0
IsCut rest = frame_at Two rest ≡ Err faults.Short

-- a rest's first fault is this one, and no more bytes mend it
abbrev pub IsBroken : List ℕ → FrameFault → Type 0
IsBroken rest fault = (frame_at Two rest ≡ Err fault) × (fault ≢ faults.Short) × (fault ≢ faults.Trailing)

-- what a push gives and leaves: the frames before a cut-off rest, which is kept; or the fault of a broken rest; and after a fault the same
abbrev pub Pushes : Kept → List ℕ → Result (List Frame) FrameFault → Kept → Type 0
Pushes (Ok kept) piece (Ok frames) (Ok rest) = Splits (kept ++ piece) frames rest × IsCut rest
Pushes (Ok kept) piece (Err fault) (Err met) = (met ≡ fault) × (frames : List Frame) × (rest : List ℕ) × Splits (kept ++ piece) frames rest × IsBroken rest fault
Pushes (Err met) piece (Err fault) (Err after) = (fault ≡ met) × (after ≡ met)
Pushes (Ok kept) piece (Ok frames) (Err met) = ⊥
Pushes (Ok kept) piece (Err fault) (Ok rest) = ⊥
Pushes (Err met) piece (Ok frames) after = ⊥
Pushes (Err met) piece (Err fault) (Ok rest) = ⊥

-- what a call answered and left is a push, unless memory ran out: then the Feed hadn't failed and is as it was
abbrev pub Answers : {X : Type 0} → (X → List Frame) → Kept → List ℕ → Result X FrameError → Kept → Type 0
Answers view old piece (Ok given) new = Pushes old piece (Ok (view given)) new
Answers view old piece (Err (Fault fault)) new = Pushes old piece (Err fault) new
Answers view old piece (Err OutOfMemory) new = IsOk old × (new ≡ old)

-- what a reading of frames found, seen as frames and a rest: the rest is cut off; or the fault of a broken one
abbrev pub Scanned : {X : Type 0} → (X → List Frame × List ℕ) → Result X FrameError → List ℕ → Type 0
Scanned view (Ok found) bytes = Splits bytes (view found).0 (view found).1 × IsCut (view found).1
Scanned view (Err (Fault fault)) bytes = (frames : List Frame) × (rest : List ℕ) × Splits bytes frames rest × IsBroken rest fault
Scanned view (Err OutOfMemory) bytes = Unit {0}

-- how many bytes there are before it can be said whether a frame is whole: a header, and from then on what it says
abbrev pub wanted_by : List ℕ → ℕ
wanted_by rest = if nat_lt (length rest) 32 then 32 else 32 + field 24 4 rest

-- what a Feed is, by its fault and its buffer
abbrev pub kept_of : Option FrameFault → List ℕ → Kept
kept_of None kept = Ok kept
kept_of (Some fault) kept = Err fault

-- what is true of a Feed: it keeps a cut-off rest, and knows how many bytes that wants; or it met a lasting fault, and keeps nothing
abbrev pub IsSound : Option FrameFault → List ℕ → ℕ → Type 0
IsSound None kept wanted = IsCut kept × (wanted ≡ wanted_by kept)
IsSound (Some fault) kept wanted = (fault ≢ faults.Short) × (fault ≢ faults.Trailing) × (kept ≡ [])

-- ---- whole runs

-- the stream of these pieces, the newest standing first
abbrev pub stream_of : List (List ℕ) → List ℕ
stream_of [] = []
stream_of (piece ∷ before) = stream_of before ++ piece

-- the frames of an answer
abbrev pub given_by : Result (List Frame) FrameFault → List Frame
given_by (Ok frames) = frames
given_by (Err fault) = []

-- a new Feed that was pushed these pieces, the newest standing first, has given these frames and is so
abbrev pub Fed : List (List ℕ) → List Frame → Kept → Type 0
Fed [] given now = (given ≡ []) × (now ≡ Ok [])
Fed (piece ∷ before) given now =
    (earlier : List Frame) × (old : Kept) × (answer : Result (List Frame) FrameFault) × Fed before earlier old × Pushes old piece answer now
    × (given ≡ earlier ++ given_by answer)
