-- The spelling of a frame is bytes of one version, and its text begins with a digit.
use Prim.Native.Nat.{zero}
use Rattle.std.proofs.Common.{◌≡◌, ℕ, suc, ◌<◌, List, [], ◌∷◌, ◌++◌, length, refl, subst, arith}
use Rattle.std.specs.Int.{bytes_high_first, byte_at}
use Rattle.hex.specs.Hex.{encode_with, IsBytes}
use Rattle.nob_frame.specs.declared.frame.Frame.{Frame}
use Rattle.nob_frame.specs.declared.frame.FrameKind.{FrameKind}
use Rattle.nob_frame.specs.declared.frame.FrameKind.TheVariants.{Data, Ack, Close}
use Rattle.nob_frame.specs.declared.version.Version.{Version}
use Rattle.nob_frame.specs.declared.version.Version.TheVariants.{One, Two}
use Rattle.nob_frame.specs.Kinds.{kind_number}
use Rattle.nob_frame.specs.Versions.{version_number, session_bytes}
use Rattle.nob_frame.specs.Spelling.{spelling, heading, header_of, marks, numbers}
use Rattle.nob_trace.specs.Frames.{frame_text, IsFramed}

bytes_cons : (b : ℕ) (rest : List ℕ) → b < 256 → IsBytes rest → IsBytes (b ∷ rest)
bytes_cons b rest small all zero = small
bytes_cons b rest small all (suc i) = all i

bytes_none : IsBytes []
bytes_none i = omega arith

bytes_both : (front rest : List ℕ) → IsBytes front → IsBytes rest → IsBytes (front ++ rest)
bytes_both [] rest one two = two
bytes_both (b ∷ front) rest one two = bytes_cons b (front ++ rest) (one 0) (bytes_both front rest (λ i. one (suc i)) two)

byte_small : (k n : ℕ) → byte_at k n < 256
byte_small zero n = omega arith
byte_small (suc k) n = omega arith

number_bytes : (k n : ℕ) → IsBytes (bytes_high_first k n)
number_bytes zero n = bytes_none
number_bytes (suc k) n = bytes_cons (byte_at k n) (bytes_high_first k n) (byte_small k n) (number_bytes k n)

kind_small : (kind : FrameKind) → kind_number kind < 256
kind_small Data = omega arith
kind_small Ack = omega arith
kind_small Close = omega arith

version_small : (version : Version) → version_number version < 256
version_small One = omega arith
version_small Two = omega arith

marks_bytes : (version kind : ℕ) → version < 256 → kind < 256 → IsBytes (78 ∷ version ∷ kind ∷ 0 ∷ [])
marks_bytes version kind little small =
    bytes_cons 78 (version ∷ kind ∷ 0 ∷ []) (omega arith) (bytes_cons version (kind ∷ 0 ∷ []) little (bytes_cons kind (0 ∷ []) small (bytes_cons 0 [] (omega arith) bytes_none)))

numbers_bytes : (a b c d e : ℕ) → IsBytes (bytes_high_first 2 a ++ bytes_high_first 2 b ++ bytes_high_first 8 c ++ bytes_high_first 8 d ++ bytes_high_first 4 e)
numbers_bytes a b c d e =
    let last = number_bytes 4 e in
    let fourth = bytes_both (bytes_high_first 8 d) (bytes_high_first 4 e) (number_bytes 8 d) last in
    let third = bytes_both (bytes_high_first 8 c) (bytes_high_first 8 d ++ bytes_high_first 4 e) (number_bytes 8 c) fourth in
    let second = bytes_both (bytes_high_first 2 b) (bytes_high_first 8 c ++ bytes_high_first 8 d ++ bytes_high_first 4 e) (number_bytes 2 b) third in
    bytes_both (bytes_high_first 2 a) (bytes_high_first 2 b ++ bytes_high_first 8 c ++ bytes_high_first 8 d ++ bytes_high_first 4 e) (number_bytes 2 a) second

sessions_bytes : (version : Version) (session : ℕ) → IsBytes (session_bytes version session)
sessions_bytes One session = bytes_none
sessions_bytes Two session = number_bytes 4 session

front_bytes : (version : Version) (frame : Frame) → IsBytes (marks version frame.kind ++ numbers (header_of frame))
front_bytes version frame =
    bytes_both (marks version frame.kind) (numbers (header_of frame)) (marks_bytes (version_number version) (kind_number frame.kind) (version_small version) (kind_small frame.kind))
    (numbers_bytes frame.from frame.to frame.seq frame.ack (length frame.payload))

heading_bytes : (version : Version) (frame : Frame) → IsBytes (heading version (header_of frame))
unfolding heading
heading_bytes version frame = bytes_both (marks version frame.kind ++ numbers (header_of frame)) (session_bytes version frame.session) (front_bytes version frame) (sessions_bytes version frame.session)

pub spelling_bytes : (version : Version) (frame : Frame) → IsFramed version frame → IsBytes (spelling version frame)
spelling_bytes version frame framed = bytes_both (heading version (header_of frame)) frame.payload (heading_bytes version frame) framed.1

bytes_behind : (front rest : List ℕ) → IsBytes (front ++ rest) → IsBytes rest
bytes_behind [] rest all = all
bytes_behind (b ∷ front) rest all = bytes_behind front rest (λ i. all (suc i))

-- where the bytes that spell a frame are bytes, those of its payload are
pub payload_bytes : (version : Version) (bytes : List ℕ) (frame : Frame) → IsBytes bytes → bytes ≡ spelling version frame → IsBytes frame.payload
payload_bytes version bytes frame all is = bytes_behind (heading version (header_of frame)) frame.payload (subst IsBytes is all)

pub begins : (version : Version) (frame : Frame) → (rest : List ℕ) × (frame_text version frame ≡ 52 ∷ rest)
unfolding heading encode_with
begins version frame = (_, refl)

-- the second of two bytes
second : (a b c d : ℕ) (xs ys : List ℕ) → a ∷ b ∷ xs ≡ c ∷ d ∷ ys → b ≡ d
second a b c d xs ys e = cc

-- no bytes spell a frame in both versions
pub versions_differ : (frame other : Frame) → spelling One frame ≡ spelling Two other → ⊥
unfolding heading
versions_differ frame other same = let numbers = second 78 1 78 2 _ _ same in omega (arith, numbers)
