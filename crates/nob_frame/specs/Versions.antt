-- The versions of the spelling of frames.
use Rattle.std.specs.Prelude.{◌≡◌, ◌≤◌, ◌<◌, ℕ, ◌^◌, ◌==◌, ◌&&◌, Bool, nat_le, nat_lt, List, []}
use Rattle.byteorder.specs.Endian.{big_bytes}
use Rattle.nob_bytes.specs.Numbers.{field}
use Rattle.nob_frame.specs.declared.version.Version.{Version}
use Rattle.nob_frame.specs.declared.version.Version.TheVariants.{One, Two}

-- the byte that stands for a version
abbrev pub version_number : Version → ℕ
version_number One = 1
version_number Two = 2

-- how many bytes a header has
abbrev pub header_length : Version → ℕ
header_length One = 28
header_length Two = 32

-- the bytes behind a header's other numbers: the session's number in version 2, none in version 1
abbrev pub session_bytes : Version → ℕ → List ℕ
session_bytes One session = []
session_bytes Two session = big_bytes 4 session

-- the number of the session that a header's bytes name: version 1 names none, and means the first
abbrev pub session_at : Version → List ℕ → ℕ
session_at One bytes = 1
session_at Two bytes = field 28 4 bytes

-- whether a version has a spelling for the number of a session: version 1 for the first alone, version 2 for 1 to 2^32 - 1
abbrev pub is_session : Version → ℕ → Bool
is_session One session = session == 1
is_session Two session = nat_le 1 session && nat_lt session (2 ^ 32)

-- a session's number that the version has a spelling for
abbrev pub HasSession : Version → ℕ → Type 0
HasSession One session = session ≡ 1
HasSession Two session = (1 ≤ session) × (session < 2 ^ 32)
