-- What an item and a pair of spaces are to a session.
use Rattle.std.specs.Prelude.{◌≢◌, ℕ, ◌≤◌, List, length}
use Rattle.nob_ids.specs.Names.{IsSpace}

-- an item that a frame can carry has 1 to 16,384 bytes
abbrev pub IsItem : List ℕ → Type 0
IsItem payload = (1 ≤ length payload) × (length payload ≤ 16384)

-- two different spaces
abbrev pub IsPair : ℕ → ℕ → Type 0
IsPair me peer = IsSpace me × IsSpace peer × me ≢ peer
