-- What is outstanding keeps its loans where none that is due can be made, and has none such once they are made.
use Rattle.std.proofs.Common.{◌≡◌, ◌&&◌, ◌++◌, not, ℕ, Bool, true, false, cond, List, [], ◌∷◌, Some, if◌then◌else◌, filter, find, map, refl, sym, ap, subst, true≢false, ◌∙◌}
use Rattle.std.specs.List.{list_all}
use Rattle.std.proofs.lemmas.Bool.{and_parts, and_from}
use Rattle.std.proofs.lemmas.Option.{none-some}
use Rattle.nob_ids.specs.declared.wire_rep.WireRep.{WireRep}
use Rattle.nob_model_types.specs.declared.deed.Deed.{Deed}
use Rattle.nob_model_types.specs.declared.message.Loan.{Loan}
use Rattle.nob_model_types.specs.declared.message.Loan.TheVariants as loans
use Rattle.nob_model_types.specs.declared.message.RefCopy.{RefCopy}
use Rattle.nob_model_types.specs.declared.message.Message.{Message}
use Rattle.nob_model_types.specs.Messages.{loan_after, copy_after, message_after}
use Rattle.nob_model_work.specs.declared.work.Outstanding.{Outstanding}
use Rattle.nob_model_work.specs.declared.work.Run.{Run}
use Rattle.nob_model_work.specs.Work.{run_after, with_loans, without_first}
use Rattle.nob_check_ledgers.specs.Acting.{is_due, is_due_loan}
use Rattle.nob_check_ledgers.specs.Making.{can_lend, is_ripe, is_lent, all_lent}

-- ---- lists all of whose elements pass a test

pub all_more : {A : Type 0} (p q : A → Bool) → ((x : A) → p x ≡ true → q x ≡ true) → (xs : List A) → list_all p xs ≡ true → list_all q xs ≡ true
all_more p q more [] all = refl
all_more p q more (x ∷ xs) all =
    let parts = and_parts (p x) (list_all p xs) all in
    and_from (q x) (list_all q xs) (more x parts.0) (all_more p q more xs parts.1)

pub all_filter : {A : Type 0} (p test : A → Bool) (xs : List A) → list_all p xs ≡ true → list_all p (filter test xs) ≡ true
all_filter p test [] all = refl
all_filter p test (x ∷ xs) all =
    let parts = and_parts (p x) (list_all p xs) all in
    elim (test x) as (λ b. list_all p (if b then x ∷ filter test xs else filter test xs) ≡ true) [
      | true ↦ and_from (p x) (list_all p (filter test xs)) parts.0 (all_filter p test xs parts.1)
      | false ↦ all_filter p test xs parts.1
    ]

pub all_without : {A : Type 0} (p test : A → Bool) (xs : List A) → list_all p xs ≡ true → list_all p (without_first test xs) ≡ true
all_without p test [] all = refl
all_without p test (x ∷ xs) all =
    let parts = and_parts (p x) (list_all p xs) all in
    elim (test x) as (λ b. list_all p (if b then xs else x ∷ without_first test xs) ≡ true) [
      | true ↦ parts.1
      | false ↦ and_from (p x) (list_all p (without_first test xs)) parts.0 (all_without p test xs parts.1)
    ]

some_same : {A : Type 0} {x y : A} → Some x ≡ Some y → x ≡ y
some_same e = cc

pub all_found : {A : Type 0} (p test : A → Bool) (xs : List A) (m : A) → list_all p xs ≡ true → find test xs ≡ Some m → p m ≡ true
all_found p test [] m all found = absurd (none-some m found)
all_found p test (x ∷ xs) m all found =
    let parts = and_parts (p x) (list_all p xs) all in
    elim (test x) as (λ b. cond b (Some x) (find test xs) ≡ Some m → p m ≡ true) [
      | true ↦ λ here. subst (λ y. p y ≡ true) (some_same here) parts.0
      | false ↦ λ there. all_found p test xs m parts.1 there
    ] found

pub all_and_last : {A : Type 0} (p : A → Bool) (xs : List A) (x : A) → list_all p xs ≡ true → p x ≡ true → list_all p (xs ++ x ∷ []) ≡ true
all_and_last p [] x all last = and_from (p x) true last refl
all_and_last p (y ∷ xs) x all last =
    let parts = and_parts (p y) (list_all p xs) all in
    and_from (p y) (list_all p (xs ++ x ∷ [])) parts.0 (all_and_last p xs x parts.1 last)

-- ---- loans that stay

loan_kept : (can : Bool) (loan : Loan) → not (is_due_loan loan && can) ≡ true → loan_after can loan ≡ loan
loan_kept true loans.Due h = absurd (true≢false (sym h))
loan_kept false loans.Due h = refl
loan_kept can loans.Lent h = refl
loan_kept can loans.Never h = refl

copies_kept : (s n : ℕ) (D : List Deed) (copies : List RefCopy) → list_all (λ copy. not (is_ripe s n D copy)) copies ≡ true → map (λ copy. copy_after s n D copy) copies ≡ copies
unfolding copy_after
copies_kept s n D [] all = refl
copies_kept s n D (copy ∷ copies) all =
    let parts = and_parts (not (is_ripe s n D copy)) (list_all (λ copy. not (is_ripe s n D copy)) copies) all in
    λ i. record { rep = copy.rep; loan = loan_kept (can_lend s n D copy.rep) copy.loan parts.0 i } ∷ copies_kept s n D copies parts.1 i

message_kept : (s n : ℕ) (D : List Deed) (message : Message) → is_lent s n D message ≡ true → message_after s n D message ≡ message
unfolding message_after
message_kept s n D message lent = λ i. record { from = message.from; session = message.session; number = message.number; item = message.item; copies = copies_kept s n D message.copies lent i }

messages_kept : (s n : ℕ) (D : List Deed) (messages : List Message) → list_all (is_lent s n D) messages ≡ true → map (λ message. message_after s n D message) messages ≡ messages
messages_kept s n D [] all = refl
messages_kept s n D (message ∷ messages) all =
    let parts = and_parts (is_lent s n D message) (list_all (is_lent s n D) messages) all in
    λ i. message_kept s n D message parts.0 i ∷ messages_kept s n D messages parts.1 i

run_kept : (s n : ℕ) (D : List Deed) (run : Run) → is_lent s n D run.message ≡ true → run_after s n D run ≡ run
unfolding run_after
run_kept s n D run lent = λ i. record { job = run.job; message = message_kept s n D run.message lent i }

runs_kept : (s n : ℕ) (D : List Deed) (runs : List Run) → list_all (λ run. is_lent s n D run.message) runs ≡ true → map (λ run. run_after s n D run) runs ≡ runs
runs_kept s n D [] all = refl
runs_kept s n D (run ∷ runs) all =
    let parts = and_parts (is_lent s n D run.message) (list_all (λ run. is_lent s n D run.message) runs) all in
    λ i. run_kept s n D run parts.0 i ∷ runs_kept s n D runs parts.1 i

pub four : (a b c d : Bool) → a ≡ true → b ≡ true → c ≡ true → d ≡ true → (a && b && c && d) ≡ true
four a b c d ha hb hc hd = and_from (a && b && c) d (and_from (a && b) c (and_from a b ha hb) hc) hd

four_parts : (a b c d : Bool) → (a && b && c && d) ≡ true → (a ≡ true) × (b ≡ true) × (c ≡ true) × (d ≡ true)
four_parts a b c d all =
    let last = and_parts (a && b && c) d all in
    let third = and_parts (a && b) c last.0 in
    let first = and_parts a b third.0 in
    (first.0, first.1, third.1, last.1)

-- the parts of what is outstanding
pub lent_parts : (s n : ℕ) (D : List Deed) (work : Outstanding) → all_lent s n D work ≡ true → (list_all (is_lent s n D) work.waiting ≡ true) × (list_all (is_lent s n D) work.ready ≡ true) × (list_all (λ run. is_lent s n D run.message) work.running ≡ true) × (list_all (is_lent s n D) work.replies ≡ true)
lent_parts s n D work all = four_parts (list_all (is_lent s n D) work.waiting) (list_all (is_lent s n D) work.ready) (list_all (λ run. is_lent s n D run.message) work.running) (list_all (is_lent s n D) work.replies) all

-- where none that is due can be made, the loans stay
pub work_kept : (s n : ℕ) (D : List Deed) (work : Outstanding) → all_lent s n D work ≡ true → with_loans s n D work ≡ work
unfolding with_loans
work_kept s n D work all =
    let (waiting, ready, running, replies) = lent_parts s n D work all in
    λ i. record { waiting = messages_kept s n D work.waiting waiting i; ready = messages_kept s n D work.ready ready i; running = runs_kept s n D work.running running i; replies = messages_kept s n D work.replies replies i; calls = work.calls }

-- ---- loans that are made

loan_made : (can : Bool) (loan : Loan) → not (is_due_loan (loan_after can loan) && can) ≡ true
loan_made true loans.Due = refl
loan_made false loans.Due = refl
loan_made can loans.Lent = refl
loan_made can loans.Never = refl

copies_made : (s n : ℕ) (D : List Deed) (copies : List RefCopy) → list_all (λ copy. not (is_ripe s n D copy)) (map (λ copy. copy_after s n D copy) copies) ≡ true
unfolding copy_after
copies_made s n D [] = refl
copies_made s n D (copy ∷ copies) = and_from (not (is_due_loan (loan_after (can_lend s n D copy.rep) copy.loan) && can_lend s n D copy.rep)) (list_all (λ copy. not (is_ripe s n D copy)) (map (λ copy. copy_after s n D copy) copies)) (loan_made (can_lend s n D copy.rep) copy.loan) (copies_made s n D copies)

message_made : (s n : ℕ) (D : List Deed) (message : Message) → is_lent s n D (message_after s n D message) ≡ true
unfolding message_after
message_made s n D message = copies_made s n D message.copies

messages_made : (s n : ℕ) (D : List Deed) (messages : List Message) → list_all (is_lent s n D) (map (λ message. message_after s n D message) messages) ≡ true
messages_made s n D [] = refl
messages_made s n D (message ∷ messages) = and_from (is_lent s n D (message_after s n D message)) (list_all (is_lent s n D) (map (λ message. message_after s n D message) messages)) (message_made s n D message) (messages_made s n D messages)

run_made : (s n : ℕ) (D : List Deed) (run : Run) → is_lent s n D (run_after s n D run).message ≡ true
unfolding run_after
run_made s n D run = message_made s n D run.message

runs_made : (s n : ℕ) (D : List Deed) (runs : List Run) → list_all (λ run. is_lent s n D run.message) (map (λ run. run_after s n D run) runs) ≡ true
runs_made s n D [] = refl
runs_made s n D (run ∷ runs) = and_from (is_lent s n D (run_after s n D run).message) (list_all (λ run. is_lent s n D run.message) (map (λ run. run_after s n D run) runs)) (run_made s n D run) (runs_made s n D runs)

-- once the loans are made, none is due that can be
pub work_made : (s n : ℕ) (D : List Deed) (work : Outstanding) → all_lent s n D (with_loans s n D work) ≡ true
unfolding with_loans
work_made s n D work = four (list_all (is_lent s n D) (map (λ message. message_after s n D message) work.waiting)) (list_all (is_lent s n D) (map (λ message. message_after s n D message) work.ready)) (list_all (λ run. is_lent s n D run.message) (map (λ run. run_after s n D run) work.running)) (list_all (is_lent s n D) (map (λ message. message_after s n D message) work.replies)) (messages_made s n D work.waiting) (messages_made s n D work.ready) (runs_made s n D work.running) (messages_made s n D work.replies)

-- ---- from one deed to the next

ripe_before : (due can later : Bool) → (later ≡ true → can ≡ true) → not (due && can) ≡ true → not (due && later) ≡ true
ripe_before false can later before h = refl
ripe_before true can false before h = refl
ripe_before true can true before h = absurd (true≢false (sym (sym (ap not (before refl)) ∙ h)))

message_later : (s n : ℕ) (D E : List Deed) → ((rep : WireRep) → can_lend s n E rep ≡ true → can_lend s n D rep ≡ true) → (message : Message) → is_lent s n D message ≡ true → is_lent s n E message ≡ true
message_later s n D E before message = all_more (λ copy. not (is_ripe s n D copy)) (λ copy. not (is_ripe s n E copy)) (λ copy h. ripe_before (is_due copy) (can_lend s n D copy.rep) (can_lend s n E copy.rep) (before copy.rep) h) message.copies

-- where no more can be lent, what is outstanding has no such loan after either
pub work_later : (s n : ℕ) (D E : List Deed) (work : Outstanding) → ((rep : WireRep) → can_lend s n E rep ≡ true → can_lend s n D rep ≡ true) → all_lent s n D work ≡ true → all_lent s n E work ≡ true
work_later s n D E work before all =
    let (waiting, ready, running, replies) = lent_parts s n D work all in
    four (list_all (is_lent s n E) work.waiting) (list_all (is_lent s n E) work.ready) (list_all (λ run. is_lent s n E run.message) work.running) (list_all (is_lent s n E) work.replies)
    (all_more (is_lent s n D) (is_lent s n E) (message_later s n D E before) work.waiting waiting)
    (all_more (is_lent s n D) (is_lent s n E) (message_later s n D E before) work.ready ready)
    (all_more (λ run. is_lent s n D run.message) (λ run. is_lent s n E run.message) (λ run. message_later s n D E before run.message) work.running running)
    (all_more (is_lent s n D) (is_lent s n E) (message_later s n D E before) work.replies replies)
