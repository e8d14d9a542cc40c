-- The ledgers have their loans made after each entry.
use Rattle.std.proofs.Common.{◌≡◌, ℕ, Bool, true, false, List, [], ◌∷◌, Option, Some, None, length, get_or, drop, if◌then◌else◌, refl, sym, ap, true≢false, ◌∙◌}
use Rattle.std.specs.Prelude.{◌==◌}
use Rattle.std.specs.List.{list_any}
use Rattle.std.proofs.lemmas.Bool.{and_parts, and_from}
use Rattle.nob_model_types.specs.declared.entry.Entry.{Entry}
use Rattle.nob_model_types.specs.Deeds.{deed_in}
use Rattle.nob_model_types.specs.declared.deed.Deed.{Deed}
use Rattle.nob_check_ledgers.specs.Ledgers.{ledger_of, ledger_after, has_loans_made}
use Rattle.nob_check_ledgers.specs.declared.ledger.Ledger.{Ledger}
use Rattle.nob_check_ledgers.proofs.Loaning.{loans_made}
use Rattle.nob_check.specs.Books.{have_loans_made, with_ledger, ledgers_after, with_entry}
use Rattle.nob_check.specs.Judging.{with_next}
use Rattle.nob_check.specs.declared.judging.Judging.{Judging}

-- all ledgers but the first
pub rest_lent : (books rest : List Ledger) → rest ≡ drop 1 books → have_loans_made books ≡ true → have_loans_made rest ≡ true
rest_lent [] rest is lent = ap have_loans_made is
rest_lent (ledger ∷ books) rest is lent = ap have_loans_made is ∙ (and_parts (has_loans_made ledger) (have_loans_made books) lent).1

-- the first
pub first_lent : (books : List Ledger) (first : Ledger) (empty : Bool) → empty ≡ false → empty ≡ (length books == 0) → first ≡ get_or books 0 first → have_loans_made books ≡ true → has_loans_made first ≡ true
first_lent [] first empty full is here lent = absurd (true≢false (sym is ∙ full))
first_lent (ledger ∷ books) first empty full is here lent = ap has_loans_made here ∙ (and_parts (has_loans_made ledger) (have_loans_made books) lent).0

-- the first is that of the space, and goes on
pub first_moved : (s : ℕ) (deed : Deed) (books rest : List Ledger) (first after : Ledger) (empty : Bool) → empty ≡ false → empty ≡ (length books == 0) → first ≡ get_or books 0 first → (first.index.here.space == s) ≡ true → after ≡ ledger_after deed first → rest ≡ drop 1 books → after ∷ rest ≡ ledgers_after s deed books
first_moved s deed [] rest first after empty full is here own one others = absurd (true≢false (sym is ∙ full))
first_moved s deed (ledger ∷ books) rest first after empty full is here own one others =
    (λ i. one i ∷ others i)
    ∙ ap (λ (l : Ledger). ledger_after deed l ∷ books) here
    ∙ sym (ap (λ (b : Bool). if b then ledger_after deed ledger ∷ books else ledger ∷ ledgers_after s deed books) (sym (ap (λ (l : Ledger). l.index.here.space == s) here) ∙ own))

after_lent : (s : ℕ) (deed : Deed) (books : List Ledger) → have_loans_made books ≡ true → have_loans_made (ledgers_after s deed books) ≡ true
after_lent s deed [] lent = refl
after_lent s deed (ledger ∷ books) lent =
    let parts = and_parts (has_loans_made ledger) (have_loans_made books) lent in
    elim (ledger.index.here.space == s) as (λ b. have_loans_made (if b then ledger_after deed ledger ∷ books else ledger ∷ ledgers_after s deed books) ≡ true) [
      | true ↦ and_from (has_loans_made (ledger_after deed ledger)) (have_loans_made books) (loans_made deed ledger) parts.1
      | false ↦ and_from (has_loans_made ledger) (have_loans_made (ledgers_after s deed books)) parts.0 (after_lent s deed books parts.1)
    ]

pub ledger_lent : (n s : ℕ) (books : List Ledger) → have_loans_made books ≡ true → have_loans_made (with_ledger n s books) ≡ true
ledger_lent n s books lent = elim (list_any (λ ledger. ledger.index.here.space == s) books) as (λ b. have_loans_made (if b then books else ledger_of s n [] ∷ books) ≡ true) [
  | true ↦ lent
  | false ↦ lent
]

pub entry_lent : (n s : ℕ) (deed : Option Deed) (books : List Ledger) → have_loans_made books ≡ true → have_loans_made (with_entry n s deed books) ≡ true
entry_lent n s None books lent = ledger_lent n s books lent
entry_lent n s (Some deed) books lent = after_lent s deed (with_ledger n s books) (ledger_lent n s books lent)

pub next_lent : (n : ℕ) (entry : Entry) (now next : Judging) → next ≡ with_next n entry now → have_loans_made now.books ≡ true → have_loans_made next.books ≡ true
next_lent n entry now next one lent = ap (λ (judging : Judging). have_loans_made judging.books) one ∙ entry_lent n entry.space (deed_in entry) now.books lent
