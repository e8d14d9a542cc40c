-- Bundles as plain data: what is in transit to which peer in which item. No word tells their order.
use Rattle.std.specs.Prelude.{ℕ, ◌≡◌, ◌<◌, ◌-◌, ◌^◌, ◌==◌, ◌&&◌, Bool, true, false, not, nat_lt, nat_le, List, ◌∷◌, filter, length, get_or}
use Rattle.std.specs.List.{list_any, sum_by}
use Rattle.std.specs.List.Sorted.{IsPermutation}
use Rattle.nob_ids.specs.Names.{is_same}
use Rattle.nob_ids.specs.declared.wire_rep.WireRep.{WireRep}

-- these references are in transit to a peer in an item
pub record Pinned : Type 0 where
  pub peer : ℕ
  pub item : ℕ
  pub reps : List WireRep

-- the bundles, how many more of them take no memory at each peer, by its number, and for how many more references there are counts
pub record Table : Type 0 where
  pub bundles : List Pinned
  pub rooms : List ℕ
  pub counts : ℕ

-- how often the reference stands among these
abbrev pub times : WireRep → List WireRep → ℕ
times rep reps = length (filter (λ other. is_same other rep) reps)

-- how often the reference is in transit, repeats included
abbrev pub count_of : List Pinned → WireRep → ℕ
count_of bundles rep = sum_by (λ bundle. times rep bundle.reps) bundles

-- a reference of this owner is in transit
abbrev pub CountsOf : List Pinned → ℕ → Type 0
CountsOf bundles owner = (rep : WireRep) × (rep.owner ≡ owner) × (0 < count_of bundles rep)

-- whether so many more pins on this reference are too many to count
abbrev pub is_full : List Pinned → ℕ → WireRep → Bool
is_full bundles many rep = nat_lt (2 ^ 64 - 1 - many) (count_of bundles rep)

-- whether a bundle of these references to this peer takes no memory
unfoldable pub has_room : Table → ℕ → List WireRep → Bool
has_room table peer reps = nat_lt 0 (get_or table.rooms peer 0) && (nat_le (length reps) table.counts && not (list_any (is_full table.bundles (length reps)) reps))

-- what had room in old has room in new
abbrev pub KeepsRoom : Table → Table → Type 0
KeepsRoom old new = (peer : ℕ) (reps : List WireRep) → has_room old peer reps ≡ true → has_room new peer reps ≡ true

-- new has the bundles of old, and its room
abbrev pub Unchanged : Table → Table → Type 0
Unchanged old new = (new.bundles ≡ old.bundles) × KeepsRoom old new

-- whether the bundle is of this peer and item
abbrev pub is_of : ℕ → ℕ → Pinned → Bool
is_of peer item bundle = bundle.peer == peer && bundle.item == item

-- whether there is a bundle of this peer and item
abbrev pub has_bundle : List Pinned → ℕ → ℕ → Bool
has_bundle bundles peer item = list_any (is_of peer item) bundles

-- the bundle of these references
abbrev pub bundle_of : ℕ → ℕ → List WireRep → Pinned
bundle_of peer item reps = record { peer = peer; item = item; reps = reps }

-- new has this bundle, and those of old
abbrev pub Adds : List Pinned → List Pinned → Pinned → Type 0
Adds old new bundle = IsPermutation (bundle ∷ old) new

-- new has the bundles of old but one of this peer and item, and none of this peer and item is left
abbrev pub TakesOut : List Pinned → List Pinned → ℕ → ℕ → Type 0
TakesOut old new peer item = ((reps : List WireRep) × Adds new old (bundle_of peer item reps)) × (has_bundle new peer item ≡ false)

-- the bundles of other peers
abbrev pub of_others : ℕ → List Pinned → List Pinned
of_others peer bundles = filter (λ bundle. not (bundle.peer == peer)) bundles

-- new has the bundles of old but those of this peer
abbrev pub TakesOutAll : List Pinned → List Pinned → ℕ → Type 0
TakesOutAll old new peer = IsPermutation (of_others peer old) new

-- new has the bundles of other peers that old has
abbrev pub KeepsOthers : List Pinned → List Pinned → ℕ → Type 0
KeepsOthers old new peer = IsPermutation (of_others peer old) (of_others peer new)

-- the bundles of a peer
abbrev pub of_peer : ℕ → List Pinned → List Pinned
of_peer peer bundles = filter (λ bundle. bundle.peer == peer) bundles
