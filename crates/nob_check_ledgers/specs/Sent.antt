-- What is looked up of what a space sent: how many items went to each peer in each session, where each reference was sent, and
-- where each item stands.
use Rattle.std.specs.Prelude.{◌≡◌, ℕ, ◌+◌, Bool, ◌&&◌, ◌==◌, List, [], ◌∷◌, ◌++◌, length, Option, Some, None, find, slice_get, option_and_then, is_some, if◌then◌else◌}
use Rattle.std.specs.List.{list_any}
use Rattle.std.specs.Map.{lookup}
use Rattle.std.specs.Option.{option_map}
use Rattle.indexmap.specs.IndexMap.{insert_entry}
use Rattle.nob_ids.specs.Names.{is_same}
use Rattle.nob_ids.specs.declared.wire_rep.WireRep.{WireRep}
use Rattle.nob_model_types.specs.Sessions.{number}
use Rattle.nob_model_types.specs.Turns.{carries}
use Rattle.nob_model_types.specs.declared.deed.Deed.{Deed}
use Rattle.nob_item.specs.Kinds.{counted_in}
use Rattle.nob_model_work.specs.declared.gifts.Gift.{Gift}
use Rattle.nob_model_history.specs.Transit.{is_sent_to, count_to, owner_session, owner_sessions}
use Rattle.nob_model_history.specs.declared.transit.SentItem.{SentItem}
use Rattle.nob_check_index.specs.ActedSessions.{is_same_session}
use Rattle.nob_check_ledgers.specs.declared.sent.Place.{Place}
use Rattle.nob_check_ledgers.specs.declared.standing.ItemName.{ItemName}

-- ---- counts

-- the count that was found, 0 where there is none
abbrev pub found_count : Option ℕ → ℕ
found_count None = 0
found_count (Some count) = count

-- how many items went to p in session k
abbrev pub count_in : (p k : ℕ) → List ((ℕ × ℕ) × ℕ) → ℕ
count_in p k counts = found_count (lookup (is_same_session (p, k)) counts)

-- the counts with another one of a session
abbrev pub with_count : (p k count : ℕ) → List ((ℕ × ℕ) × ℕ) → List ((ℕ × ℕ) × ℕ)
with_count p k count counts = insert_entry is_same_session counts (p, k) count

-- ---- places

-- the places that were found, none where there is no row
abbrev pub found_places : Option (List Place) → List Place
found_places None = []
found_places (Some places) = places

-- where a reference was sent
abbrev pub places_in : WireRep → List (WireRep × List Place) → List Place
places_in rep rows = found_places (lookup (is_same rep) rows)

-- the rows with other places of a reference
abbrev pub with_places : WireRep → List Place → List (WireRep × List Place) → List (WireRep × List Place)
with_places rep places rows = insert_entry is_same rows rep places

-- the rows with one place more of a reference
abbrev pub with_place : WireRep → Place → List (WireRep × List Place) → List (WireRep × List Place)
with_place rep place rows = with_places rep (places_in rep rows ++ place ∷ []) rows

-- where a reference is sent by item k to p after what was done
abbrev pub new_place : List Deed → (p k : ℕ) → WireRep → Place
new_place D p k rep = record { to = p; session = number p D; number = k; with_owner = number rep.owner D }

-- the rows with one place more of each of some references, which are sent by item k to p
abbrev pub with_all : List Deed → (p k : ℕ) → List WireRep → List (WireRep × List Place) → List (WireRep × List Place)
with_all D p k [] rows = rows
with_all D p k (rep ∷ reps) rows = with_all D p k reps (with_place rep (new_place D p k rep) rows)

-- a test of places
abbrev pub PlaceTest : Type 0
PlaceTest = Place → Bool

-- where an item was sent, and in which session with the owner of a reference
abbrev pub place_of : WireRep → SentItem → Place
place_of rep sent_item = record { to = sent_item.to; session = sent_item.session; number = sent_item.number; with_owner = owner_session rep sent_item }

-- what is sent as a gift under number k after what was done
abbrev pub item_by : List Deed → Gift → ℕ → SentItem
item_by D gift k = record { to = gift.to; session = number gift.to D; number = k; item = gift.item; owners = owner_sessions D (counted_in gift.item) }

-- ---- items by their names

-- whether two are the name of one item
abbrev pub is_same_name : ItemName → ItemName → Bool
is_same_name name other = name.to == other.to && (name.session == other.session && name.number == other.number)

-- the name of item k that went to p in a session
abbrev pub name_of : (p session k : ℕ) → ItemName
name_of p session k = record { to = p; session = session; number = k }

-- where the item of a name stands
abbrev pub standing_in : ItemName → List (ItemName × ℕ) → Option ℕ
standing_in name standings = lookup (is_same_name name) standings

-- these with that of one name more, unless it has one
abbrev pub with_standing : ItemName → ℕ → List (ItemName × ℕ) → List (ItemName × ℕ)
with_standing name place standings = if is_some (standing_in name standings) then standings else insert_entry is_same_name standings name place

-- whether an item that was sent is item k to p in a session
abbrev pub is_item : (p session k : ℕ) → SentItem → Bool
is_item p session k sent_item = is_sent_to p session sent_item && sent_item.number == k

-- the place of the first that passes a test, counted from 0
abbrev pub first_place : {A : Type 0} → (A → Bool) → List A → Option ℕ
first_place test [] = None
first_place test (x ∷ xs) = if test x then Some 0 else option_map (λ i. 1 + i) (first_place test xs)

-- the tables say what was sent: how many items in each session; a test of a reference's places holds where it does of an item's that carries it; and where the item of each name stands
pub record Tell (counts : List ((ℕ × ℕ) × ℕ)) (rows : List (WireRep × List Place)) (standings : List (ItemName × ℕ)) (sent_items : List SentItem) : Type 0 where
  pub counted : (p k : ℕ) → count_in p k counts ≡ count_to p k sent_items
  pub carried : (rep : WireRep) (test : PlaceTest) → list_any test (places_in rep rows) ≡ list_any (λ sent_item. carries rep sent_item.item && test (place_of rep sent_item)) sent_items
  pub stand : (p session k : ℕ) → standing_in (name_of p session k) standings ≡ first_place (is_item p session k) sent_items
