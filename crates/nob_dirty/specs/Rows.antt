-- A row for each client, with the indexes at which it is listed, and the pairs that rows stand for.
use Rattle.std.specs.Prelude.{◌≡◌, ℕ, ◌==◌, ◌&&◌, Bool, false, List, [], ◌∷◌, ◌++◌, slice_get, slice_set, Some}
use Rattle.std.specs.List.{list_any}
use Rattle.nob_dirty.specs.declared.rows.Row.{Row}
use Rattle.nob_dirty.specs.declared.sets.Listing.{Listing}

-- whether the index is among these
abbrev pub has : ℕ → List ℕ → Bool
has index indexes = list_any (λ i. i == index) indexes

-- whether the row is the client's
abbrev pub is_row : ℕ → Row → Bool
is_row client row = row.client == client

-- whether the row's client is listed at the index
abbrev pub is_at_row : ℕ → Row → Bool
is_at_row index row = has index row.indexes

-- whether the row lists this client at this index
abbrev pub is_listed : ℕ → ℕ → Row → Bool
is_listed index client row = row.client == client && has index row.indexes

-- no client has two rows
abbrev pub AreApart : List Row → Type 0
AreApart [] = Unit {0}
AreApart (row ∷ rows) = (list_any (is_row row.client) rows ≡ false) × AreApart rows

-- the client at each of these indexes
abbrev pub listings_of : ℕ → List ℕ → List Listing
listings_of client [] = []
listings_of client (index ∷ indexes) = record { index = index; client = client } ∷ listings_of client indexes

-- what the rows list
abbrev pub all_listings : List Row → List Listing
all_listings [] = []
all_listings (row ∷ rows) = listings_of row.client row.indexes ++ all_listings rows

-- new is old, but that the client of the row at the place is listed at other indexes: at i where change i says so of whether it was
abbrev pub Changes : (ℕ → Bool → Bool) → List Row → List Row → ℕ → Type 0
Changes change old new place = (row : Row) → slice_get old place ≡ Some row → (after : Row) × (after.client ≡ row.client) × ((i : ℕ) → has i after.indexes ≡ change i (has i row.indexes)) × (new ≡ slice_set old place after)

-- new is old and a row of the client with this one index
abbrev pub Begins : List Row → List Row → ℕ → ℕ → Type 0
Begins old new index client = (row : Row) × (row.client ≡ client) × ((i : ℕ) → has i row.indexes ≡ (index == i)) × (new ≡ old ++ row ∷ [])
