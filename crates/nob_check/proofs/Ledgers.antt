-- The ledgers of a journal say what each space did and sent.
use Rattle.std.proofs.Common.{◌≡◌, ◌||◌, ℕ, Bool, true, false, cond, List, [], ◌∷◌, Some, None, map, refl, sym, ap, ◌∙◌}
use Rattle.std.specs.Prelude.{◌==◌}
use Rattle.std.proofs.lemmas.Bool.{eqb-true}
use Rattle.nob_model_types.specs.declared.entry.Entry.{Entry}
use Rattle.nob_model_types.specs.declared.deed.Deed.{Deed}
use Rattle.nob_model_work.specs.Gifts.{all_gifts}
use Rattle.nob_model_history.specs.Transit.{sent_of, sent}
use Rattle.nob_model_journal.specs.Journals.{deeds_at, history_at}
use Rattle.nob_model_journal.specs.Tests.{spaces_in}
use Rattle.nob_model_journal.proofs.Looking.{is_in, no_deed}
use Rattle.nob_check_ledgers.specs.Ledgers.{ledger_of}
use Rattle.nob_check_ledgers.specs.declared.ledger.Ledger.{Ledger}
use Rattle.nob_check.specs.Books.{books_of, find_ledger, deeds_in, sent_in, did_by, sent_by}

-- the ledger of a space among n in a journal
abbrev pub ledger_at : ℕ → List Entry → ℕ → Ledger
ledger_at n J s = ledger_of s n (deeds_at s J)

-- the ledger of a space is found where the space has one
pub found_at : (n : ℕ) (J : List Entry) (s : ℕ) (xs : List ℕ) → find_ledger s (map (ledger_at n J) xs) ≡ cond (is_in s xs) (Some (ledger_at n J s)) None
found_at n J s [] = refl
found_at n J s (x ∷ xs) = by (found_at n J s xs) (x == s) refl
  where
    by : find_ledger s (map (ledger_at n J) xs) ≡ cond (is_in s xs) (Some (ledger_at n J s)) None → (t : Bool) → x == s ≡ t → find_ledger s (map (ledger_at n J) (x ∷ xs)) ≡ cond (is_in s (x ∷ xs)) (Some (ledger_at n J s)) None
    by rest true same =
        ap (λ (b : Bool). cond b (Some (ledger_at n J x)) (find_ledger s (map (ledger_at n J) xs))) same
        ∙ ap (λ (y : ℕ). Some (ledger_at n J y)) (eqb-true x s same)
        ∙ sym (ap (λ (b : Bool). cond (b || is_in s xs) (Some (ledger_at n J s)) None) same)
    by rest false other =
        ap (λ (b : Bool). cond b (Some (ledger_at n J x)) (find_ledger s (map (ledger_at n J) xs))) other
        ∙ rest
        ∙ sym (ap (λ (b : Bool). cond (b || is_in s xs) (Some (ledger_at n J s)) None) other)

-- what a space did
pub did_is : (n : ℕ) (J : List Entry) (s : ℕ) → did_by (books_of n J) s ≡ deeds_at s J
did_is n J s = ap deeds_in (found_at n J s (spaces_in J)) ∙ by (is_in s (spaces_in J)) refl
  where
    by : (t : Bool) → is_in s (spaces_in J) ≡ t → deeds_in (cond (is_in s (spaces_in J)) (Some (ledger_at n J s)) None) ≡ deeds_at s J
    by true there = ap (λ (b : Bool). deeds_in (cond b (Some (ledger_at n J s)) None)) there
    by false none = ap (λ (b : Bool). deeds_in (cond b (Some (ledger_at n J s)) None)) none ∙ sym (no_deed s J none)

-- what each space did
pub did_same : (n : ℕ) (J : List Entry) → did_by (books_of n J) ≡ (λ s. deeds_at s J)
did_same n J = λ i. λ s. did_is n J s i

-- what a space sent
pub sent_is : (n : ℕ) (J : List Entry) (s : ℕ) → sent_by (books_of n J) s ≡ sent_of (deeds_at s J) (all_gifts s n (deeds_at s J))
sent_is n J s = ap sent_in (found_at n J s (spaces_in J)) ∙ by (is_in s (spaces_in J)) refl
  where
    by : (t : Bool) → is_in s (spaces_in J) ≡ t → sent_in (cond (is_in s (spaces_in J)) (Some (ledger_at n J s)) None) ≡ sent_of (deeds_at s J) (all_gifts s n (deeds_at s J))
    by true there = ap (λ (b : Bool). sent_in (cond b (Some (ledger_at n J s)) None)) there
    by false none =
        ap (λ (b : Bool). sent_in (cond b (Some (ledger_at n J s)) None)) none
        ∙ sym (ap (λ (D : List Deed). sent_of D (all_gifts s n D)) (no_deed s J none))

-- what each space sent
pub sent_same : (n : ℕ) (J : List Entry) → sent_by (books_of n J) ≡ (λ s. sent (history_at s n J))
sent_same n J = λ i. λ s. sent_is n J s i
