-- The loans of the outstanding work are made as far as they can be made now.
use Rattle.std.proofs.Common.{◌≡◌, ℕ, Bool, true, false, ◌||◌, List, [], ◌∷◌, map, refl, ap}
use Rattle.std.specs.List.{AllByRecursion}
use Rattle.nob_model_types.specs.declared.deed.Deed.{Deed}
use Rattle.nob_model_types.specs.declared.message.Loan.{Loan}
use Rattle.nob_model_types.specs.declared.message.Loan.TheVariants as loans
use Rattle.nob_model_types.specs.declared.message.RefCopy.{RefCopy}
use Rattle.nob_model_types.specs.declared.message.Message.{Message}
use Rattle.nob_model_types.specs.Turns.{is_own, is_usable}
use Rattle.nob_model_types.specs.Messages.{loan_after, copy_after, message_after}
use Rattle.nob_model_work.specs.declared.work.Outstanding.{Outstanding}
use Rattle.nob_model_work.specs.declared.work.Run.{Run}
use Rattle.nob_model_work.specs.Work.{work, work_after, with_loans, run_after}

-- a function of which two steps are one, over a list
pub map_again : {A : Type 0} (f : A → A) → ((x : A) → f (f x) ≡ f x) → (xs : List A) → map f (map f xs) ≡ map f xs
map_again f again [] = refl
map_again f again (x ∷ xs) = rw (again x, map_again f again xs) refl

-- loans that were made are made
loan_again : (usable : Bool) (loan : Loan) → loan_after usable (loan_after usable loan) ≡ loan_after usable loan
loan_again true loans.Due = refl
loan_again false loans.Due = refl
loan_again usable loans.Lent = refl
loan_again usable loans.Never = refl

copy_again : (s n : ℕ) (D : List Deed) (copy : RefCopy) → copy_after s n D (copy_after s n D copy) ≡ copy_after s n D copy
unfolding copy_after
copy_again s n D copy = ap (λ loan. record { rep = copy.rep; loan = loan }) (loan_again (is_own s copy.rep || is_usable s n copy.rep D) copy.loan)

message_again : (s n : ℕ) (D : List Deed) (message : Message) → message_after s n D (message_after s n D message) ≡ message_after s n D message
unfolding message_after
message_again s n D message = ap (λ copies. record { from = message.from; session = message.session; number = message.number; item = message.item; copies = copies }) (map_again (λ copy. copy_after s n D copy) (copy_again s n D) message.copies)

run_again : (s n : ℕ) (D : List Deed) (run : Run) → run_after s n D (run_after s n D run) ≡ run_after s n D run
unfolding run_after
run_again s n D run = ap (λ message. record { job = run.job; message = message }) (message_again s n D run.message)

loans_again : (s n : ℕ) (D : List Deed) (w : Outstanding) → with_loans s n D (with_loans s n D w) ≡ with_loans s n D w
unfolding with_loans
loans_again s n D w =
    let messages : (ms : List Message) → map (λ message. message_after s n D message) (map (λ message. message_after s n D message) ms) ≡ map (λ message. message_after s n D message) ms = map_again (λ message. message_after s n D message) (message_again s n D) in
    rw (messages w.waiting, messages w.ready, messages w.replies, map_again (λ run. run_after s n D run) (run_again s n D) w.running) refl

-- in the outstanding work all loans are made that can be made
pub loans_made : (s n : ℕ) (D : List Deed) → with_loans s n D (work s n D) ≡ work s n D
unfolding with_loans
loans_made s n [] = refl
loans_made s n (deed ∷ D) = loans_again s n (deed ∷ D) (work_after s n deed D (work s n D))

-- the first element of equal lists, and the others
first_same : {A : Type 0} {x y : A} {xs ys : List A} → (x ∷ xs) ≡ (y ∷ ys) → x ≡ y
first_same e = cc

others_same : {A : Type 0} {x y : A} {xs ys : List A} → (x ∷ xs) ≡ (y ∷ ys) → xs ≡ ys
others_same e = cc

-- a list that a function leaves as it is has only elements that it leaves
pub all_fixed : {A : Type 0} (f : A → A) (xs : List A) → map f xs ≡ xs → AllByRecursion (λ x. f x ≡ x) xs
all_fixed f [] same = tt
all_fixed f (x ∷ xs) same = (first_same same, all_fixed f xs (others_same same))

-- a function that leaves each element leaves the list
pub fixed_map : {A : Type 0} (f : A → A) (xs : List A) → AllByRecursion (λ x. f x ≡ x) xs → map f xs ≡ xs
fixed_map f [] all = refl
fixed_map f (x ∷ xs) all = λ i. all.0 i ∷ fixed_map f xs all.1 i

-- the loans of all that is outstanding are made
pub record AreFixed (s n : ℕ) (D : List Deed) (w : Outstanding) : Type 0 where
  pub waiting : AllByRecursion (λ message. message_after s n D message ≡ message) w.waiting
  pub ready : AllByRecursion (λ message. message_after s n D message ≡ message) w.ready
  pub running : AllByRecursion (λ run. run_after s n D run ≡ run) w.running
  pub replies : AllByRecursion (λ message. message_after s n D message ≡ message) w.replies

-- so they are in the outstanding work
pub work_fixed : (s n : ℕ) (D : List Deed) → AreFixed s n D (work s n D)
unfolding with_loans
work_fixed s n D =
    let made : with_loans s n D (work s n D) ≡ work s n D = loans_made s n D in
    record {
      waiting = all_fixed (λ message. message_after s n D message) (work s n D).waiting (ap (λ (w : Outstanding). w.waiting) made);
      ready = all_fixed (λ message. message_after s n D message) (work s n D).ready (ap (λ (w : Outstanding). w.ready) made);
      running = all_fixed (λ run. run_after s n D run) (work s n D).running (ap (λ (w : Outstanding). w.running) made);
      replies = all_fixed (λ message. message_after s n D message) (work s n D).replies (ap (λ (w : Outstanding). w.replies) made);
    }

-- what is fixed stays as it is
pub fixed_stays : (s n : ℕ) (D : List Deed) (w : Outstanding) → AreFixed s n D w → with_loans s n D w ≡ w
unfolding with_loans
fixed_stays s n D w fixed =
    rw (fixed_map (λ message. message_after s n D message) w.waiting fixed.waiting, fixed_map (λ message. message_after s n D message) w.ready fixed.ready, fixed_map (λ run. run_after s n D run) w.running fixed.running, fixed_map (λ message. message_after s n D message) w.replies fixed.replies) refl
