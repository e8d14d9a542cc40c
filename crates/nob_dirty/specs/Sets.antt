-- The pairs of an index and a client: which are listed, and what each call makes of that. No word tells their order.
use Rattle.std.specs.Prelude.{◌≡◌, ◌↔◌, ℕ, ◌==◌, ◌&&◌, ◌||◌, Bool, true, false, not, List}
use Rattle.std.specs.List.{list_any, Contains}
use Rattle.nob_dirty.specs.declared.sets.Listing.{Listing}

-- whether the listing is of this index and client
abbrev pub is_of : ℕ → ℕ → Listing → Bool
is_of index client listing = listing.index == index && listing.client == client

-- whether the listing is of this index
abbrev pub has_index : ℕ → Listing → Bool
has_index index listing = listing.index == index

-- whether the client is listed at the index
abbrev pub lists : List Listing → ℕ → ℕ → Bool
lists set index client = list_any (is_of index client) set

-- nothing is listed
abbrev pub ListsNothing : List Listing → Type 0
ListsNothing set = (index client : ℕ) → lists set index client ≡ false

-- no client is listed at the index
abbrev pub IsEmptyAt : List Listing → ℕ → Type 0
IsEmptyAt set index = (client : ℕ) → lists set index client ≡ false

-- new lists what old lists
abbrev pub ListsSame : List Listing → List Listing → Type 0
ListsSame old new = (index client : ℕ) → lists new index client ≡ lists old index client

-- new lists this client at this index, and else what old lists
abbrev pub Enters : List Listing → List Listing → ℕ → ℕ → Type 0
Enters old new index client = (i c : ℕ) → lists new i c ≡ (lists old i c || (index == i && client == c))

-- new lists what old lists, but not this client at this index
abbrev pub Leaves : List Listing → List Listing → ℕ → ℕ → Type 0
Leaves old new index client = (i c : ℕ) → lists new i c ≡ (not (index == i && client == c) && lists old i c)

-- new lists what old lists, but this client nowhere
abbrev pub LeavesAll : List Listing → List Listing → ℕ → Type 0
LeavesAll old new client = (i c : ℕ) → lists new i c ≡ (not (client == c) && lists old i c)

-- these are the clients that are listed at the index
abbrev pub AreClients : List Listing → ℕ → List ℕ → Type 0
AreClients set index clients = (client : ℕ) → Contains clients client ↔ (lists set index client ≡ true)

-- these are the indexes at which the client is listed
abbrev pub AreIndexes : List Listing → ℕ → List ℕ → Type 0
AreIndexes set client indexes = (index : ℕ) → Contains indexes index ↔ (lists set index client ≡ true)
