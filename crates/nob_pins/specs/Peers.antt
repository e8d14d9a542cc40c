-- The bundles by peer and item number, and the counts by reference, as the table keeps them.
use Rattle.std.specs.Prelude.{ℕ, ◌≡◌, ◌-◌, ◌^◌, ◌==◌, ◌++◌, ◌<◌, Bool, List, [], ◌∷◌, Option, Some, map, nat_lt, get_or, slice_get, IfSome, MatchOption}
use Rattle.std.specs.Option.{unwrap_or, option_map_or}
use Rattle.std.specs.List.{All, list_any, flat_map}
use Rattle.std.specs.Map.{lookup}
use Rattle.nob_ids.specs.Names.{is_same}
use Rattle.nob_ids.specs.declared.wire_rep.WireRep.{WireRep}
use Rattle.nob_pins.specs.Bundles.{Pinned, count_of}

-- the bundles of one peer, and how many more of them take no memory
pub record Row : Type 0 where
  pub pinned : List Pinned
  pub room : ℕ

-- counts by reference, and for how many more references there is room
pub record Counted : Type 0 where
  pub rows : List (WireRep × ℕ)
  pub room : ℕ

-- each bundle stands under its item's number
abbrev pub AreByItem : List (ℕ × Pinned) → Type 0
AreByItem entries = All (λ entry. entry.1.item ≡ entry.0) entries

-- whether there is a bundle of this item
abbrev pub has_item : ℕ → List Pinned → Bool
has_item item bundles = list_any (λ bundle. item == bundle.item) bundles

-- the last of the bundles is taken out, if there is any
abbrev pub Pops : List Pinned → Option Pinned → List Pinned → Type 0
Pops old result new = MatchOption result ((old ≡ []) × (new ≡ [])) (λ bundle. old ≡ new ++ bundle ∷ [])

-- the count of a reference
abbrev pub count_in : List (WireRep × ℕ) → WireRep → ℕ
count_in rows rep = unwrap_or (lookup (is_same rep) rows) 0

-- no reference has a count of 0
abbrev pub AreSome : List (WireRep × ℕ) → Type 0
AreSome rows = (rep : WireRep) → IfSome (lookup (is_same rep) rows) (λ count. 0 < count)

-- whether so many more pins on this reference are too many to count
abbrev pub is_many : List (WireRep × ℕ) → ℕ → WireRep → Bool
is_many counts many rep = nat_lt (2 ^ 64 - 1 - many) (count_in counts rep)

-- the bundles of all peers
abbrev pub all_pinned : List Row → List Pinned
all_pinned rows = flat_map (λ row. row.pinned) rows

-- the rooms of all peers
abbrev pub rooms_of : List Row → List ℕ
rooms_of rows = map (λ row. row.room) rows

-- the bundles of the peer with this number
abbrev pub pinned_at : List Row → ℕ → List Pinned
pinned_at rows peer = option_map_or (λ row. row.pinned) (slice_get rows peer) []

-- all these bundles are of this peer
abbrev pub AreOfPeer : ℕ → List Pinned → Type 0
AreOfPeer peer bundles = All (λ bundle. bundle.peer ≡ peer) bundles

-- the bundles of each peer stand at its number
abbrev pub AreByPeer : List Row → Type 0
AreByPeer rows = (peer : ℕ) (row : Row) → slice_get rows peer ≡ Some row → AreOfPeer peer row.pinned

-- the counts are those of the bundles
abbrev pub AreCounted : List (WireRep × ℕ) → List Pinned → Type 0
AreCounted counts bundles = (rep : WireRep) → count_in counts rep ≡ count_of bundles rep

-- new has room for a bundle of each peer for which old has it
abbrev pub KeepsRooms : List Row → List Row → Type 0
KeepsRooms old new = (peer : ℕ) → 0 < get_or (rooms_of old) peer 0 → 0 < get_or (rooms_of new) peer 0
