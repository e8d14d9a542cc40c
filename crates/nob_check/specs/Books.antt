-- The ledgers of all spaces, and what is read off them.
use Rattle.std.specs.Prelude.{ℕ, Bool, ◌&&◌, ◌||◌, not, ◌==◌, List, [], ◌∷◌, Option, Some, None, map, find, if◌then◌else◌}
use Rattle.std.specs.List.{list_any, list_all}
use Rattle.nob_ids.specs.declared.wire_rep.WireRep.{WireRep}
use Rattle.nob_model_types.specs.declared.entry.Entry.{Entry}
use Rattle.nob_model_types.specs.Sessions.{closed, number}
use Rattle.nob_model_types.specs.Turns.{is_own}
use Rattle.nob_model_types.specs.declared.deed.Deed.{Deed}
use Rattle.nob_model_history.specs.declared.transit.SentItem.{SentItem}
use Rattle.nob_model_journal.specs.Journals.{deeds_at}
use Rattle.nob_model_journal.specs.Tests.{spaces_in}
use Rattle.nob_check_ledgers.specs.Ledgers.{ledger_of, ledger_after, has_loans_made}
use Rattle.nob_check_ledgers.specs.declared.ledger.Ledger.{Ledger}

-- the ledgers of a journal of n spaces: of each space that has entries
abbrev pub books_of : ℕ → List Entry → List Ledger
books_of n J = map (λ s. ledger_of s n (deeds_at s J)) (spaces_in J)

-- the ledger of a space
abbrev pub find_ledger : ℕ → List Ledger → Option Ledger
find_ledger s books = find (λ ledger. ledger.index.here.space == s) books

-- the deeds of a ledger, where there is one
abbrev pub deeds_in : Option Ledger → List Deed
deeds_in None = []
deeds_in (Some ledger) = ledger.index.deeds

-- what was sent by a ledger, where there is one
abbrev pub sent_in : Option Ledger → List SentItem
sent_in None = []
sent_in (Some ledger) = ledger.sent_items

-- what each space did, by the ledgers
abbrev pub did_by : List Ledger → ℕ → List Deed
did_by books s = deeds_in (find_ledger s books)

-- what each space sent, by the ledgers
abbrev pub sent_by : List Ledger → ℕ → List SentItem
sent_by books s = sent_in (find_ledger s books)

-- whether the session of a and b has closed at a, by what each space did
abbrev pub closed_by : (ℕ → List Deed) → (a b : ℕ) → Bool
closed_by did a b = closed b (did a)

-- the number of the session with b in which a is
abbrev pub number_by : (ℕ → List Deed) → (a b : ℕ) → ℕ
number_by did a b = number b (did a)

-- whether both are in one session, and it is open at both ends
abbrev pub both_open_by : (ℕ → List Deed) → (a b : ℕ) → Bool
both_open_by did a b = number_by did a b == number_by did b a && (not (closed_by did a b) && not (closed_by did b a))

-- whether a space is the owner of a reference, or its session with the owner is open at both ends
abbrev pub reaches_owner_by : (ℕ → List Deed) → ℕ → WireRep → Bool
reaches_owner_by did c rep = is_own c rep || both_open_by did c rep.owner

-- whether a space is the owner of a reference, or in session k with the owner
abbrev pub is_with_owner_by : (ℕ → List Deed) → ℕ → WireRep → ℕ → Bool
is_with_owner_by did a rep k = is_own a rep || k == number_by did a rep.owner

-- whether no loan outstanding at any space is due that can be made
abbrev pub have_loans_made : List Ledger → Bool
have_loans_made books = list_all has_loans_made books

-- the ledgers with one of a space, an empty one where there is none
abbrev pub with_ledger : (n s : ℕ) → List Ledger → List Ledger
with_ledger n s books = if list_any (λ ledger. ledger.index.here.space == s) books then books else ledger_of s n [] ∷ books

-- the ledgers after a deed of a space
abbrev pub ledgers_after : ℕ → Deed → List Ledger → List Ledger
ledgers_after s deed [] = []
ledgers_after s deed (ledger ∷ books) = if ledger.index.here.space == s then ledger_after deed ledger ∷ books else ledger ∷ ledgers_after s deed books

-- the ledgers after what a space did
abbrev pub ledgers_after_by : ℕ → Option Deed → List Ledger → List Ledger
ledgers_after_by s None books = books
ledgers_after_by s (Some deed) books = ledgers_after s deed books

-- the ledgers after an entry of a space that did this
abbrev pub with_entry : (n s : ℕ) → Option Deed → List Ledger → List Ledger
with_entry n s deed books = ledgers_after_by s deed (with_ledger n s books)
