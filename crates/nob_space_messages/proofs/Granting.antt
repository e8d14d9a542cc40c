-- A walk over copies, and one over messages, that makes the loans that are due.
use Rattle.std.proofs.Common.{◌≡◌, ℕ, ◌+◌, ◌<◌, ◌≤◌, Bool, true, false, cond, ◌&&◌, List, [], ◌∷◌, ◌++◌, length, map, filter, take, drop, get_or, refl, sym, ap, subst, ◌∙◌, arith}
use Prim.Native.Nat.{zero, suc}
use lib.ListN.{set}
use Rattle.std.proofs.lemmas.List.{take_more, length-append}
use Rattle.std.proofs.lemmas.List.Elements.{filter-append}
use Rattle.nob_ids.specs.Names.{is_same}
use Rattle.nob_ids.specs.declared.wire_rep.WireRep.{WireRep}
use Rattle.nob_model_types.specs.declared.message.Loan.{Loan}
use Rattle.nob_model_types.specs.declared.message.Loan.TheVariants as loans
use Rattle.nob_model_types.specs.declared.message.Message.{Message}
use Rattle.nob_model_types.specs.Messages.{loan_after}
use Rattle.nob_model_types.proofs.Mapped.{changed_next}
use Rattle.nob_space_messages.specs.Waiting.{is_due, due_to, due_to_all}

-- ---- lists

-- an element that is written where it stands
set_same : {A : Type 0} (xs : List A) (i : ℕ) (x : A) → i < length xs → x ≡ get_or xs i x → set xs i x ≡ xs
set_same [] i x lt is = absurd (omega (arith, lt))
set_same {A} (y ∷ xs) zero x lt is = ap (λ (z : A). z ∷ xs) is
set_same (y ∷ xs) (suc i) x lt is = ap (λ zs. y ∷ zs) (set_same xs i x (omega (arith, lt)) is)

now_long : {A : Type 0} (f : A → A) (xs : List A) (i : ℕ) → i < length xs → i < length (map f (take i xs) ++ drop i xs)
now_long f [] i lt = absurd (omega (arith, lt))
now_long f (y ∷ xs) zero lt = lt
now_long f (y ∷ xs) (suc i) lt = let rest = now_long f xs i (omega (arith, lt)) in omega (arith, rest)

-- an element that stays what it is
pub kept_next : {A : Type 0} (f : A → A) (xs now : List A) (i : ℕ) (x : A) → now ≡ map f (take i xs) ++ drop i xs → i < length xs → x ≡ get_or now i x → x ≡ f x → now ≡ map f (take (i + 1) xs) ++ drop (i + 1) xs
kept_next {A} f xs now i x are lt is same =
    let long : i < length now = subst (λ (zs : List A). i < length zs) (sym are) (now_long f xs i lt) in
    sym (set_same now i x long is) ∙ changed_next f xs now i x x are lt is same

-- at most so many pass among the first so many
pub few_first : {A : Type 0} (test : A → Bool) (xs : List A) (i : ℕ) → length (filter test (take i xs)) ≤ i
few_first test [] zero = omega arith
few_first test [] (suc i) = omega arith
few_first test (x ∷ xs) zero = omega arith
few_first test (x ∷ xs) (suc i) =
    let rest = few_first test xs i in
    elim (test x) as (λ b. length (cond b (x ∷ filter test (take i xs)) (filter test (take i xs))) ≤ suc i) [ true ↦ omega (arith, rest) | false ↦ omega (arith, rest) ]

-- one more passes, or not
pub pass_next : {A : Type 0} (test : A → Bool) (xs : List A) (i : ℕ) (x : A) (b : Bool) → i < length xs → x ≡ get_or xs i x → test x ≡ b → length (filter test (take (i + 1) xs)) ≡ length (filter test (take i xs)) + cond b 1 0
pass_next {A} test xs i x b lt is passes =
    ap (λ ys. length (filter test ys)) (take_more xs i x lt ∙ ap (λ (y : A). take i xs ++ y ∷ []) (sym is))
    ∙ ap length (filter-append test (take i xs) (x ∷ [])) ∙ length-append (filter test (take i xs)) (filter test (x ∷ []))
    ∙ ap (λ m. length (filter test (take i xs)) + m) (ap (λ (c : Bool). length (cond c (x ∷ []) [])) passes ∙ elim b as (λ c. length (cond c (x ∷ []) []) ≡ cond c 1 0) [ true ↦ refl | false ↦ refl ])

-- ---- copies

-- a copy whose loan is due is lent
pub waits_granted : (rep w : WireRep) (loan : Loan) → (is_same rep w && is_due loan) ≡ true → loans.Lent ≡ loan_after (is_same rep w) loan
waits_granted rep w loan waits = elim (is_same rep w) as (λ b. (b && is_due loan) ≡ true → loans.Lent ≡ loan_after b loan) [ true ↦ due loan | false ↦ λ e. absurd (cc) ] waits
  where
    due : (loan : Loan) → is_due loan ≡ true → loans.Lent ≡ loan_after true loan
    due loans.Due e = refl
    due loans.Lent e = refl
    due loans.Never e = absurd (cc)

-- and another stays what it is
pub else_granted : (rep w : WireRep) (loan : Loan) → (is_same rep w && is_due loan) ≡ false → loan ≡ loan_after (is_same rep w) loan
else_granted rep w loan waits = elim (is_same rep w) as (λ b. (b && is_due loan) ≡ false → loan ≡ loan_after b loan) [ true ↦ due loan | false ↦ λ _. still loan ] waits
  where
    due : (loan : Loan) → is_due loan ≡ false → loan ≡ loan_after true loan
    due loans.Due e = absurd (cc)
    due loans.Lent e = refl
    due loans.Never e = refl

    still : (loan : Loan) → loan ≡ loan_after false loan
    still loans.Due = refl
    still loans.Lent = refl
    still loans.Never = refl

-- ---- messages

due_append : (rep : WireRep) (ms : List Message) (m : Message) → due_to_all rep (ms ++ m ∷ []) ≡ due_to_all rep ms + due_to rep m
due_append rep [] m = omega arith
due_append rep (first ∷ ms) m = let rest = due_append rep ms m in omega (arith, rest)

-- with those due to the next message
pub due_next : (rep : WireRep) (ms : List Message) (i : ℕ) (m : Message) → i < length ms → m ≡ get_or ms i m → due_to_all rep (take (i + 1) ms) ≡ due_to_all rep (take i ms) + due_to rep m
due_next rep ms i m lt is = ap (due_to_all rep) (take_more ms i m lt ∙ ap (λ (one : Message). take i ms ++ one ∷ []) (sym is)) ∙ due_append rep (take i ms) m

-- those due to the first are no more than those due to all
pub due_first : (rep : WireRep) (ms : List Message) (i : ℕ) → due_to_all rep (take i ms) ≤ due_to_all rep ms
due_first rep [] zero = omega arith
due_first rep [] (suc i) = omega arith
due_first rep (m ∷ ms) zero = omega arith
due_first rep (m ∷ ms) (suc i) = let rest = due_first rep ms i in omega (arith, rest)
