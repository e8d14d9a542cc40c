-- The ledgers of a journal by one entry more.
use Rattle.std.proofs.Common.{◌≡◌, ◌||◌, ℕ, Bool, true, false, cond, List, [], ◌∷◌, Option, Some, None, map, refl, sym, ap, subst, true≢false, ◌∙◌}
use Rattle.std.specs.Prelude.{⊤, ◌==◌}
use Rattle.std.specs.List.{list_any, cons_option}
use Rattle.std.proofs.lemmas.Bool.{eqb-true, eq-eqb, ne_eqb}
use Rattle.nob_model_types.specs.declared.entry.Entry.{Entry}
use Rattle.nob_model_types.specs.Deeds.{deed_in, deeds}
use Rattle.nob_model_types.specs.declared.deed.Deed.{Deed}
use Rattle.nob_model_journal.specs.Journals.{at, deeds_at}
use Rattle.nob_model_journal.specs.Tests.{spaces_in, with_space}
use Rattle.nob_model_journal.proofs.Looking.{is_in, no_deed}
use Rattle.nob_check_ledgers.specs.Ledgers.{ledger_of, ledger_after}
use Rattle.nob_check_ledgers.proofs.Kept.{ledger_kept}
use Rattle.nob_check.specs.Books.{books_of, with_ledger, ledgers_after, ledgers_after_by, with_entry}
use Rattle.nob_check.proofs.Ledgers.{ledger_at}

-- ---- each space once

-- no number stands twice among these
abbrev pub AreOnce : List ℕ → Type 0
AreOnce [] = ⊤
AreOnce (s ∷ xs) = (is_in s xs ≡ false) × AreOnce xs

once_with : (s : ℕ) (xs : List ℕ) (b : Bool) → is_in s xs ≡ b → AreOnce xs → AreOnce (cond b xs (s ∷ xs))
once_with s xs true there once = once
once_with s xs false none once = (none, once)

spaces_once : (J : List Entry) → AreOnce (spaces_in J)
spaces_once [] = tt
spaces_once (entry ∷ J) = once_with entry.space (spaces_in J) (is_in entry.space (spaces_in J)) refl (spaces_once J)

-- ---- what a space did, by one entry more

turned : (a b : ℕ) → (a == b) ≡ (b == a)
turned a b = by (b == a) refl
  where
    by : (t : Bool) → b == a ≡ t → (a == b) ≡ (b == a)
    by true same = eq-eqb a b (sym (eqb-true b a same)) ∙ sym same
    by false other = ne_eqb a b (λ e. true≢false (sym (eq-eqb b a (sym e)) ∙ other)) ∙ sym other

-- an entry of another space
far_deeds : (entry : Entry) (J : List Entry) (s : ℕ) → (s == entry.space) ≡ false → deeds_at s J ≡ deeds_at s (entry ∷ J)
far_deeds entry J s other = sym (ap (λ (b : Bool). deeds (cond b (entry ∷ at s J) (at s J))) (turned entry.space s ∙ other))

-- an entry that did this
own_deeds : (entry : Entry) (J : List Entry) (found : Option Deed) → deed_in entry ≡ found → deeds_at entry.space (entry ∷ J) ≡ cons_option found (deeds_at entry.space J)
own_deeds entry J found is =
    ap (λ (b : Bool). deeds (cond b (entry ∷ at entry.space J) (at entry.space J))) (eq-eqb entry.space entry.space refl)
    ∙ ap (λ (did : Option Deed). cons_option did (deeds_at entry.space J)) is

-- an entry that did nothing
idle_deeds : (entry : Entry) (J : List Entry) (s : ℕ) → deed_in entry ≡ None → deeds_at s J ≡ deeds_at s (entry ∷ J)
idle_deeds entry J s none = by (s == entry.space) refl
  where
    by : (t : Bool) → s == entry.space ≡ t → deeds_at s J ≡ deeds_at s (entry ∷ J)
    by true same = subst (λ (x : ℕ). deeds_at x J ≡ deeds_at x (entry ∷ J)) (sym (eqb-true s entry.space same)) (sym (own_deeds entry J None none))
    by false other = far_deeds entry J s other

-- ---- a ledger for each space

any_at : (n s : ℕ) (J : List Entry) (xs : List ℕ) → list_any (λ ledger. ledger.index.here.space == s) (map (ledger_at n J) xs) ≡ is_in s xs
any_at n s J [] = refl
any_at n s J (x ∷ xs) = ap (λ (b : Bool). (x == s) || b) (any_at n s J xs)

opened : (n s : ℕ) (J : List Entry) → with_ledger n s (books_of n J) ≡ map (ledger_at n J) (with_space s (spaces_in J))
opened n s J = by (is_in s (spaces_in J)) refl
  where
    by : (t : Bool) → is_in s (spaces_in J) ≡ t → with_ledger n s (books_of n J) ≡ map (ledger_at n J) (with_space s (spaces_in J))
    by true there =
        ap (λ (b : Bool). cond b (books_of n J) (ledger_of s n [] ∷ books_of n J)) (any_at n s J (spaces_in J) ∙ there)
        ∙ sym (ap (λ (b : Bool). map (ledger_at n J) (cond b (spaces_in J) (s ∷ spaces_in J))) there)
    by false none =
        ap (λ (b : Bool). cond b (books_of n J) (ledger_of s n [] ∷ books_of n J)) (any_at n s J (spaces_in J) ∙ none)
        ∙ ap (λ (D : List Deed). ledger_of s n D ∷ books_of n J) (sym (no_deed s J none))
        ∙ sym (ap (λ (b : Bool). map (ledger_at n J) (cond b (spaces_in J) (s ∷ spaces_in J))) none)

-- ---- the ledgers, by one entry more

not_either : (a b : Bool) → (a || b) ≡ false → (a ≡ false) × (b ≡ false)
not_either true b h = absurd (true≢false h)
not_either false b h = (refl, h)

-- the ledgers of other spaces stay
unmoved : (n : ℕ) (entry : Entry) (J : List Entry) (xs : List ℕ) → is_in entry.space xs ≡ false → map (ledger_at n J) xs ≡ map (ledger_at n (entry ∷ J)) xs
unmoved n entry J [] none = refl
unmoved n entry J (x ∷ xs) none =
    let parts = not_either (x == entry.space) (is_in entry.space xs) none in
    let first = far_deeds entry J x parts.0 in
    let rest = unmoved n entry J xs parts.1 in
    λ i. ledger_of x n (first i) ∷ rest i

-- the ledger of the space itself goes on
moved : (n : ℕ) (entry : Entry) (J : List Entry) (deed : Deed) → deed_in entry ≡ Some deed → ledger_after deed (ledger_at n J entry.space) ≡ ledger_at n (entry ∷ J) entry.space
moved n entry J deed is = ledger_kept entry.space n deed (deeds_at entry.space J) ∙ ap (ledger_of entry.space n) (sym (own_deeds entry J (Some deed) is))

ledgers_after_is : (n : ℕ) (entry : Entry) (J : List Entry) (deed : Deed) → deed_in entry ≡ Some deed → (xs : List ℕ) → AreOnce xs → ledgers_after entry.space deed (map (ledger_at n J) xs) ≡ map (ledger_at n (entry ∷ J)) xs
ledgers_after_is n entry J deed is [] once = refl
ledgers_after_is n entry J deed is (x ∷ xs) once = by (ledgers_after_is n entry J deed is xs once.1) (x == entry.space) refl
  where
    by : ledgers_after entry.space deed (map (ledger_at n J) xs) ≡ map (ledger_at n (entry ∷ J)) xs → (t : Bool) → x == entry.space ≡ t → ledgers_after entry.space deed (map (ledger_at n J) (x ∷ xs)) ≡ map (ledger_at n (entry ∷ J)) (x ∷ xs)
    by grew true same =
        let here : x ≡ entry.space = eqb-true x entry.space same in
        let first : ledger_after deed (ledger_at n J x) ≡ ledger_at n (entry ∷ J) x = subst (λ (s : ℕ). ledger_after deed (ledger_at n J s) ≡ ledger_at n (entry ∷ J) s) (sym here) (moved n entry J deed is) in
        let rest = unmoved n entry J xs (subst (λ (s : ℕ). is_in s xs ≡ false) here once.0) in
        ap (λ (b : Bool). cond b (ledger_after deed (ledger_at n J x) ∷ map (ledger_at n J) xs) (ledger_at n J x ∷ ledgers_after entry.space deed (map (ledger_at n J) xs))) same
        ∙ (λ i. first i ∷ rest i)
    by grew false other =
        let first = far_deeds entry J x other in
        ap (λ (b : Bool). cond b (ledger_after deed (ledger_at n J x) ∷ map (ledger_at n J) xs) (ledger_at n J x ∷ ledgers_after entry.space deed (map (ledger_at n J) xs))) other
        ∙ (λ i. ledger_of x n (first i) ∷ grew i)

-- the ledgers after an entry are those of one entry more
pub books_kept : (n : ℕ) (entry : Entry) (J : List Entry) → with_entry n entry.space (deed_in entry) (books_of n J) ≡ books_of n (entry ∷ J)
books_kept n entry J = ap (ledgers_after_by entry.space (deed_in entry)) (opened n entry.space J) ∙ by (deed_in entry) refl
  where
    by : (found : Option Deed) → deed_in entry ≡ found → ledgers_after_by entry.space (deed_in entry) (map (ledger_at n J) (spaces_in (entry ∷ J))) ≡ books_of n (entry ∷ J)
    by None is =
        ap (λ (did : Option Deed). ledgers_after_by entry.space did (map (ledger_at n J) (spaces_in (entry ∷ J)))) is
        ∙ (λ i. map (λ s. ledger_of s n (idle_deeds entry J s is i)) (spaces_in (entry ∷ J)))
    by (Some deed) is =
        ap (λ (did : Option Deed). ledgers_after_by entry.space did (map (ledger_at n J) (spaces_in (entry ∷ J)))) is
        ∙ ledgers_after_is n entry J deed is (spaces_in (entry ∷ J)) (spaces_once (entry ∷ J))
