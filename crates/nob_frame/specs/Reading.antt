-- Which of F1 to F12 bytes or a frame are refused for: the first in the order of judging.
use Rattle.std.specs.Prelude.{◌≡◌, ℕ, ◌+◌, ◌^◌, ◌==◌, ◌&&◌, Bool, true, not, nat_lt, nat_le, if◌then◌else◌, List, length, take, drop, slice_index, Option, Some, None, Result, Ok, Err, IsOk}
use Rattle.nob_bytes.specs.Numbers.{field}
use Rattle.nob_ids.specs.Names.{is_space}
use Rattle.nob_frame.specs.declared.fault.FrameFault.{FrameFault}
use Rattle.nob_frame.specs.declared.fault.FrameFault.TheVariants as faults
use Rattle.nob_frame.specs.declared.fault.FrameError.{FrameError}
use Rattle.nob_frame.specs.declared.fault.FrameError.TheVariants.{Fault, OutOfMemory}
use Rattle.nob_frame.specs.declared.frame.Frame.{Frame}
use Rattle.nob_frame.specs.declared.frame.FrameKind.{FrameKind}
use Rattle.nob_frame.specs.declared.frame.FrameKind.TheVariants.{Data, Ack, Close}
use Rattle.nob_frame.specs.declared.header.Header.{Header}
use Rattle.nob_frame.specs.declared.version.Version.{Version}
use Rattle.nob_frame.specs.Kinds.{kind_of}
use Rattle.nob_frame.specs.Versions.{version_number, header_length, session_at, is_session}
use Rattle.nob_frame.specs.Spelling.{header_of, spelling}

-- the next step, unless there is a fault already
infixl 10 ◌>>=◌
abbrev pub ◌>>=◌ : {A B : Type 0} → Result A FrameFault → (A → Result B FrameFault) → Result B FrameFault
(Ok x) >>= f = f x
(Err e) >>= f = Err e

-- what a call answered, seen by view, is what the definition answers; want of memory comes only where there is no fault
abbrev pub Gives : {X Y : Type 0} → (X → Y) → Result X FrameError → Result Y FrameFault → Type 0
Gives view (Ok x) read = read ≡ Ok (view x)
Gives view (Err (Fault fault)) read = read ≡ Err fault
Gives view (Err OutOfMemory) read = IsOk read

-- the same for a call that takes no memory
abbrev pub Sees : {X Y : Type 0} → (X → Y) → Result X FrameFault → Result Y FrameFault → Type 0
Sees view (Ok x) read = read ≡ Ok (view x)
Sees view (Err fault) read = read ≡ Err fault

-- ---- a header's tests

-- two spaces, each 1 to 32
abbrev pub are_spaces : ℕ → ℕ → Bool
are_spaces from to = is_space from && is_space to && not (from == to)

-- the number of an item, or 0 in a frame that carries none
abbrev pub is_seq : FrameKind → ℕ → Bool
is_seq Data seq = nat_le 1 seq && nat_le seq (2 ^ 40)
is_seq Ack seq = seq == 0
is_seq Close seq = seq == 0

-- the number of the next item: one more than an item's, or 1
abbrev pub is_next : ℕ → Bool
is_next ack = nat_le 1 ack && nat_le ack (2 ^ 40 + 1)

-- the length of an item, of nothing, of a reason
abbrev pub is_length : FrameKind → ℕ → Bool
is_length Data len = nat_le 1 len && nat_le len 16384
is_length Ack len = len == 0
is_length Close len = len == 1

-- whether the payload is one that its kind allows: in a Close frame, the number of a reason
abbrev pub is_payload : FrameKind → List ℕ → Bool
is_payload Data payload = true
is_payload Ack payload = true
is_payload Close payload = nat_le 1 (slice_index payload 0) && nat_le (slice_index payload 0) 6

-- ---- judging, in order

-- F6 to F9 of a header, then F12
unfoldable pub sound : Version → Header → Result Header FrameFault
sound version header =
    if not (are_spaces header.from header.to) then Err faults.Spaces
    else if not (is_seq header.kind header.seq) then Err faults.Seq
    else if not (is_next header.ack) then Err faults.Ack
    else if not (is_length header.kind header.length) then Err faults.Length
    else if not (is_session version header.session) then Err faults.Session
    else Ok header

-- F4 of the byte of the kind, or the kind
abbrev pub known : Option FrameKind → Result FrameKind FrameFault
known None = Err faults.Kind
known (Some kind) = Ok kind

-- F2 to F5 of the first four bytes, or the kind
unfoldable pub kind_at : Version → List ℕ → Result FrameKind FrameFault
kind_at version bytes =
    if not (slice_index bytes 0 == 78) then Err faults.Magic
    else if not (slice_index bytes 1 == version_number version) then Err faults.Version
    else known (kind_of (slice_index bytes 2)) >>= λ kind. if not (slice_index bytes 3 == 0) then Err faults.Flags
    else Ok kind

-- the numbers of a header, as they stand in the bytes
abbrev pub numbers_at : Version → FrameKind → List ℕ → Header
numbers_at version kind bytes = record { kind = kind; from = field 4 2 bytes; to = field 6 2 bytes; session = session_at version bytes; seq = field 8 8 bytes; ack = field 16 8 bytes; length = field 24 4 bytes }

-- F1 to F9 and F12 of the bytes, or the header
unfoldable pub header_at : Version → List ℕ → Result Header FrameFault
header_at version bytes = if nat_lt (length bytes) (header_length version) then Err faults.Short else (kind_at version bytes >>= λ kind. sound version (numbers_at version kind bytes))

-- F1 or F10 of the bytes after a header, or the payload of so many bytes with the bytes after it
unfoldable pub payload_at : FrameKind → ℕ → List ℕ → Result (List ℕ × List ℕ) FrameFault
payload_at kind len rest =
    if nat_lt (length rest) len then Err faults.Short
    else if not (is_payload kind (take len rest)) then Err faults.Reason
    else Ok (take len rest, drop len rest)

-- a frame with a header and a payload
abbrev pub frame_of : Header → List ℕ → Frame
frame_of header payload = record { kind = header.kind; from = header.from; to = header.to; session = header.session; seq = header.seq; ack = header.ack; payload = payload }

-- the frame that a header begins, and the bytes after it
abbrev pub front_of : Version → Header → List ℕ → Frame × List ℕ
front_of version header bytes = (frame_of header (take header.length (drop (header_length version) bytes)), drop header.length (drop (header_length version) bytes))

-- F1 to F10 and F12 of the bytes, or the frame at their front with the bytes after it
unfoldable pub front_at : Version → List ℕ → Result (Frame × List ℕ) FrameFault
front_at version bytes = do
  header ← header_at version bytes
  parts ← payload_at header.kind header.length (drop (header_length version) bytes)
  Ok (frame_of header parts.0, parts.1)

-- F1 to F12 of the bytes, or the frame that all of them are
unfoldable pub frame_at : Version → List ℕ → Result Frame FrameFault
frame_at version bytes = do
  front ← front_at version bytes
  if length front.1 == 0 then Ok front.0 else Err faults.Trailing

-- F6 to F9, F12 and F10 of a frame, or its spelling
unfoldable pub bytes_of : Version → Frame → Result (List ℕ) FrameFault
bytes_of version frame = do
  header ← sound version (header_of frame)
  if not (is_payload frame.kind frame.payload) then Err faults.Reason else Ok (spelling version frame)
