-- What is true of all spellings.
use Rattle.std.specs.Prelude.{◌≡◌, List, ℕ, ◌++◌, Ok, Err, IsOk}
use Rattle.nob_frame.specs.declared.fault.FrameFault.{FrameFault}
use Rattle.nob_frame.specs.declared.frame.Frame.{Frame}
use Rattle.nob_frame.specs.declared.version.Version.{Version}
use Rattle.nob_frame.specs.Spelling.{Spelt}
use Rattle.nob_frame.specs.Streams.{Splits, Kept, IsBroken, stream_of, Fed}

-- no spelling of a frame begins another of its version, so what begins with a frame begins with that one alone
abbrev pub NoFront : Type 0
NoFront = (version : Version) (one other after_one after_other : List ℕ) (frame twin : Frame) → Spelt version one frame → Spelt version other twin → one ++ after_one ≡ other ++ after_other
    → (one ≡ other) × (frame ≡ twin)

-- bytes are frames and a rest in one way
abbrev pub OneSplit : Type 0
OneSplit = (bytes : List ℕ) (frames others : List Frame) (rest left : List ℕ) → Splits bytes frames rest → Splits bytes others left → (frames ≡ others) × (rest ≡ left)

-- how a stream is cut doesn't matter: what is kept or the fault that was met is the same, and so are the frames where none was met
abbrev pub AnyCut : Type 0
AnyCut = (pieces others : List (List ℕ)) (given got : List Frame) (now twin : Kept) → stream_of pieces ≡ stream_of others → Fed pieces given now → Fed others got twin
    → (now ≡ twin) × (IsOk now → given ≡ got)

-- without a fault the stream so far is the spellings of the frames that were given, one after the other, and then what is kept
abbrev pub AllGiven : Type 0
AllGiven = (pieces : List (List ℕ)) (given : List Frame) (kept : List ℕ) → Fed pieces given (Ok kept) → Splits (stream_of pieces) given kept

-- a fault that was met stands in the stream so far, after the frames that were given and those that came with it
abbrev pub FaultStands : Type 0
FaultStands = (pieces : List (List ℕ)) (given : List Frame) (fault : FrameFault) → Fed pieces given (Err fault)
    → (more : List Frame) × (rest : List ℕ) × Splits (stream_of pieces) (given ++ more) rest × IsBroken rest fault
