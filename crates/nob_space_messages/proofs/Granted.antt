-- Messages once a reference is granted, and how many of their copies are due.
use Rattle.std.proofs.Common.{◌≡◌, ℕ, ◌+◌, ◌&&◌, Bool, true, false, not, cond, List, [], ◌∷◌, length, filter, map, if◌then◌else◌, refl, sym, ap, ◌∙◌, arith, true≢false}
use Rattle.nob_ids.specs.declared.wire_rep.WireRep.{WireRep}
use Rattle.nob_ids.specs.Names.{is_same}
use Rattle.nob_model_types.specs.declared.message.Loan.{Loan}
use Rattle.nob_model_types.specs.declared.message.Loan.TheVariants as loans
use Rattle.nob_model_types.specs.declared.message.Message.{Message}
use Rattle.nob_model_types.specs.declared.message.RefCopy.{RefCopy}
use Rattle.nob_model_types.specs.Messages.{loan_after}
use Rattle.nob_space_messages.specs.Waiting.{due_to, granted_copy, granted_message, is_due, is_due_where, waits_for}
use Rattle.nob_space_messages.specs.Lines.{open_in}
use Rattle.nob_space_messages.proofs.Counting.{same_is}
use Rattle.nob_space_messages.proofs.Granting.{else_granted}

-- ---- counts
pub count_cons : {A : Type 0} (p : A → Bool) (x : A) (xs : List A) → length (filter p (x ∷ xs)) ≡ (if p x then 1 else 0) + length (filter p xs)
count_cons p x xs = elim (p x) as (λ b. length (cond b (x ∷ filter p xs) (filter p xs)) ≡ (if b then 1 else 0) + length (filter p xs)) [ true ↦ omega arith | false ↦ omega arith ]

pub count_map : {A : Type 0} (p q : A → Bool) (f : A → A) (xs : List A) → ((x : A) → p (f x) ≡ q x) → length (filter p (map f xs)) ≡ length (filter q xs)
count_map p q f [] same = refl
count_map p q f (x ∷ xs) same =
    count_cons p (f x) (map f xs) ∙ ap (λ b. (if b then 1 else 0) + length (filter p (map f xs))) (same x) ∙ ap (λ n. (if q x then 1 else 0) + n) (count_map p q f xs same) ∙ sym (count_cons q x xs)

pub count_same : {A : Type 0} (p q : A → Bool) (xs : List A) → ((x : A) → p x ≡ q x) → length (filter p xs) ≡ length (filter q xs)
count_same p q [] same = refl
count_same p q (x ∷ xs) same =
    count_cons p x xs ∙ ap (λ b. (if b then 1 else 0) + length (filter p xs)) (same x) ∙ ap (λ n. (if q x then 1 else 0) + n) (count_same p q xs same) ∙ sym (count_cons q x xs)

count_split : {A : Type 0} (p q r : A → Bool) (xs : List A) → ((x : A) → (if p x then 1 else 0) ≡ (if q x then 1 else 0) + (if r x then 1 else 0)) → length (filter p xs) ≡ length (filter q xs) + length (filter r xs)
count_split p q r [] splits = omega arith
count_split p q r (x ∷ xs) splits =
    let rest = count_split p q r xs splits in
    let one = splits x in
    omega (arith, rest, one, count_cons p x xs, count_cons q x xs, count_cons r x xs)

-- ---- copies
loan_twice : (b : Bool) (loan : Loan) → loan_after b (loan_after b loan) ≡ loan_after b loan
loan_twice true loans.Due = refl
loan_twice true loans.Lent = refl
loan_twice true loans.Never = refl
loan_twice false loans.Due = refl
loan_twice false loans.Lent = refl
loan_twice false loans.Never = refl

loan_still : (loan : Loan) → loan_after false loan ≡ loan
loan_still loans.Due = refl
loan_still loans.Lent = refl
loan_still loans.Never = refl

loan_gone : (b : Bool) (loan : Loan) → (b && is_due (loan_after b loan)) ≡ false
loan_gone true loans.Due = refl
loan_gone true loans.Lent = refl
loan_gone true loans.Never = refl
loan_gone false loan = refl

copies_twice : (rep : WireRep) (copies : List RefCopy) → map (granted_copy rep) (map (granted_copy rep) copies) ≡ map (granted_copy rep) copies
copies_twice rep [] = refl
copies_twice rep (c ∷ copies) =
    let one = loan_twice (is_same rep c.rep) c.loan in
    let rest = copies_twice rep copies in
    λ i. record { rep = c.rep; loan = one i } ∷ rest i

no_copy_due : (rep : WireRep) (copies : List RefCopy) → length (filter (waits_for rep) (map (granted_copy rep) copies)) ≡ 0
no_copy_due rep [] = refl
no_copy_due rep (c ∷ copies) =
    let all = count_cons (waits_for rep) (granted_copy rep c) (map (granted_copy rep) copies) in
    let none : ◌≡◌ {A = ℕ} (if waits_for rep (granted_copy rep c) then 1 else 0) 0 = ap (λ b. if b then 1 else 0) (loan_gone (is_same rep c.rep) c.loan) in
    let rest = no_copy_due rep copies in
    omega (arith, all, none, rest)

copies_still : (rep : WireRep) (copies : List RefCopy) → length (filter (waits_for rep) copies) ≡ 0 → map (granted_copy rep) copies ≡ copies
copies_still rep [] none = refl
copies_still rep (c ∷ copies) none =
    let all = count_cons (waits_for rep) c copies in
    elim (waits_for rep c) as (λ b. waits_for rep c ≡ b → length (filter (waits_for rep) (c ∷ copies)) ≡ (if b then 1 else 0) + length (filter (waits_for rep) copies) → map (granted_copy rep) (c ∷ copies) ≡ c ∷ copies) [
      | true ↦ λ t e. absurd (omega (arith, e, none))
      | false ↦ λ u e.
          let one : loan_after (is_same rep c.rep) c.loan ≡ c.loan = sym (else_granted rep c.rep c.loan u) in
          let rest : map (granted_copy rep) copies ≡ copies = copies_still rep copies (omega (arith, e, none)) in
          λ i. record { rep = c.rep; loan = one i } ∷ rest i
    ] refl all

-- ---- messages
pub granted_twice : (rep : WireRep) (m : Message) → granted_message rep (granted_message rep m) ≡ granted_message rep m
granted_twice rep m = let copies = copies_twice rep m.copies in λ i. record { from = m.from; session = m.session; number = m.number; item = m.item; copies = copies i }

pub none_due : (rep : WireRep) (m : Message) → due_to rep (granted_message rep m) ≡ 0
none_due rep m = no_copy_due rep m.copies

pub granted_still : (rep : WireRep) (m : Message) → due_to rep m ≡ 0 → granted_message rep m ≡ m
granted_still rep m none = let copies = copies_still rep m.copies none in λ i. record { from = m.from; session = m.session; number = m.number; item = m.item; copies = copies i }

-- a test without one reference
abbrev pub but : WireRep → (WireRep → Bool) → WireRep → Bool
but rep test other = test other && not (is_same rep other)

other_loan : (b t : Bool) (loan : Loan) → (is_due (loan_after b loan) && (t && not b)) ≡ (is_due loan && (t && not b))
other_loan true true loans.Due = refl
other_loan true true loans.Lent = refl
other_loan true true loans.Never = refl
other_loan true false loans.Due = refl
other_loan true false loans.Lent = refl
other_loan true false loans.Never = refl
other_loan false t loan = rw (loan_still loan) refl

pub open_granted : (rep : WireRep) (test : WireRep → Bool) (m : Message) → open_in (but rep test) (granted_message rep m) ≡ open_in (but rep test) m
open_granted rep test m = count_map (is_due_where (but rep test)) (is_due_where (but rep test)) (granted_copy rep) m.copies (λ c. other_loan (is_same rep c.rep) (test c.rep) c.loan)

pub due_other : (rep other : WireRep) (m : Message) → is_same rep other ≡ false → due_to other (granted_message rep m) ≡ due_to other m
due_other rep other m differs = count_map (waits_for other) (waits_for other) (granted_copy rep) m.copies
    (λ c. elim (is_same other c.rep) as (λ b. is_same other c.rep ≡ b → (b && is_due (loan_after (is_same rep c.rep) c.loan)) ≡ (b && is_due c.loan)) [
      | true ↦ λ t.
          let u : is_same rep c.rep ≡ false = ap (is_same rep) (sym (same_is other c.rep t)) ∙ differs in
          ap (λ b. is_due (loan_after b c.loan)) u ∙ ap is_due (loan_still c.loan)
      | false ↦ λ u. refl
    ] refl)

one_open : (s d t : Bool) → (s ≡ true → t ≡ true) → (if d && t then 1 else 0) ≡ (if d && (t && not s) then 1 else 0) + (if s && d then 1 else 0)
one_open true true true h = omega arith
one_open true true false h = absurd (true≢false (sym (h refl)))
one_open true false t h = omega arith
one_open false true true h = omega arith
one_open false true false h = omega arith
one_open false false t h = omega arith

pub open_less : (rep : WireRep) (test : WireRep → Bool) (m : Message) → test rep ≡ true → open_in test m ≡ open_in (but rep test) m + due_to rep m
open_less rep test m passes = count_split (is_due_where test) (is_due_where (but rep test)) (waits_for rep) m.copies
    (λ c. one_open (is_same rep c.rep) (is_due c.loan) (test c.rep) (λ t. ap test (sym (same_is rep c.rep t)) ∙ passes))

pub open_same : (test other : WireRep → Bool) (m : Message) → ((r : WireRep) → test r ≡ other r) → open_in test m ≡ open_in other m
open_same test other m same = count_same (is_due_where test) (is_due_where other) m.copies (λ c. ap (λ b. is_due c.loan && b) (same c.rep))

-- where the reference fails the test itself
pub open_but : (rep : WireRep) (test : WireRep → Bool) (m : Message) → test rep ≡ false → open_in test m ≡ open_in (but rep test) m
open_but rep test m fails = open_same test (but rep test) m
    (λ r. elim (is_same rep r) as (λ b. is_same rep r ≡ b → test r ≡ (test r && not b)) [
      | true ↦ λ t. let u : test r ≡ false = ap test (sym (same_is rep r t)) ∙ fails in rw u refl
      | false ↦ λ u. elim (test r) as (λ b. b ≡ (b && true)) [ true ↦ refl | false ↦ refl ]
    ] refl)
