-- Which frames have a spelling, and the one spelling of each.
use Rattle.std.specs.Prelude.{◌≡◌, ◌≢◌, ◌≤◌, ℕ, ◌+◌, ◌^◌, List, [], ◌∷◌, ◌++◌, length}
use Rattle.byteorder.specs.Endian.{big_bytes}
use Rattle.nob_ids.specs.Names.{IsSpace}
use Rattle.nob_frame.specs.declared.frame.Frame.{Frame}
use Rattle.nob_frame.specs.declared.frame.FrameKind.{FrameKind}
use Rattle.nob_frame.specs.declared.frame.FrameKind.TheVariants.{Data, Ack, Close}
use Rattle.nob_frame.specs.declared.header.Header.{Header}
use Rattle.nob_frame.specs.declared.version.Version.{Version}
use Rattle.nob_frame.specs.Kinds.{kind_number}
use Rattle.nob_frame.specs.Versions.{version_number, session_bytes, HasSession}

-- the four bytes that every header begins with: the mark of a frame, the version, the kind, no flags
abbrev pub marks : Version → FrameKind → List ℕ
marks version kind = 78 ∷ version_number version ∷ kind_number kind ∷ 0 ∷ []

-- the numbers that every header has, the highest byte of each first
abbrev pub numbers : Header → List ℕ
numbers header = big_bytes 2 header.from ++ big_bytes 2 header.to ++ big_bytes 8 header.seq ++ big_bytes 8 header.ack ++ big_bytes 4 header.length

-- the bytes of a header: its marks, its numbers, and its session's number where the version names that
unfoldable pub heading : Version → Header → List ℕ
heading version header = (marks version header.kind ++ numbers header) ++ session_bytes version header.session

-- the header of a frame
abbrev pub header_of : Frame → Header
header_of frame = record { kind = frame.kind; from = frame.from; to = frame.to; session = frame.session; seq = frame.seq; ack = frame.ack; length = length frame.payload }

-- the spelling of a frame: its header, and what it carries
abbrev pub spelling : Version → Frame → List ℕ
spelling version frame = heading version (header_of frame) ++ frame.payload

-- a Data frame has the number of an item, the others have 0
abbrev pub HasSeq : FrameKind → ℕ → Type 0
HasSeq Data seq = (1 ≤ seq) × (seq ≤ 2 ^ 40)
HasSeq Ack seq = seq ≡ 0
HasSeq Close seq = seq ≡ 0

-- a Data frame carries an item of 1 to 16,384 bytes, an Ack frame nothing, a Close frame a reason's number
abbrev pub Carries : FrameKind → List ℕ → Type 0
Carries Data payload = (1 ≤ length payload) × (length payload ≤ 16384)
Carries Ack payload = payload ≡ []
Carries Close payload = (reason : ℕ) × (1 ≤ reason) × (reason ≤ 6) × (payload ≡ reason ∷ [])

-- a frame that has a spelling in this version
pub record Fits (version : Version) (frame : Frame) : Type 0 where
  pub from : IsSpace frame.from
  pub to : IsSpace frame.to
  pub apart : frame.from ≢ frame.to
  pub session : HasSession version frame.session
  pub seq : HasSeq frame.kind frame.seq
  pub low_ack : 1 ≤ frame.ack
  pub high_ack : frame.ack ≤ 2 ^ 40 + 1
  pub carries : Carries frame.kind frame.payload

-- the bytes are the spelling of the frame in this version
abbrev pub Spelt : Version → List ℕ → Frame → Type 0
Spelt version bytes frame = Fits version frame × (bytes ≡ spelling version frame)
