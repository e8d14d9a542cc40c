-- What granting a reference makes of the outstanding work, and of what is lent.
use Rattle.std.proofs.Common.{◌≡◌, ℕ, ◌+◌, Bool, true, false, cond, not, ◌&&◌, ◌||◌, List, [], ◌∷◌, ◌++◌, length, map, filter, flat_map, Some, if◌then◌else◌, refl, sym, ap, subst, ◌∙◌, arith}
use Prim.Native.Nat.{zero, suc}
use lib.ListN.{replicate}
use Rattle.std.specs.List.{AllByRecursion}
use Rattle.std.proofs.lemmas.List.{replicate-append-replicate}
use Rattle.nob_ids.specs.Names.{is_same}
use Rattle.nob_ids.specs.declared.limits.Limits.{Limits}
use Rattle.nob_ids.specs.declared.wire_rep.WireRep.{WireRep}
use Rattle.nob_item.specs.declared.item.Item.TheVariants as items
use Rattle.nob_model_types.specs.declared.deed.Deed.{Deed}
use Rattle.nob_model_types.specs.declared.deed.Deed.TheVariants.{Act}
use Rattle.nob_model_types.specs.declared.message.Loan.{Loan}
use Rattle.nob_model_types.specs.declared.message.Loan.TheVariants as loans
use Rattle.nob_model_types.specs.declared.message.Message.{Message}
use Rattle.nob_model_types.specs.declared.message.RefCopy.{RefCopy}
use Rattle.nob_model_types.specs.declared.turns.OwnerAnswer.TheVariants as said
use Rattle.nob_model_types.specs.Sessions.{closed, item_at}
use Rattle.nob_model_types.specs.Turns.{turns, is_own, is_usable, is_granted, is_pending, with_answer}
use Rattle.nob_model_types.specs.Messages.{loan_after, copy_after, message_after}
use Rattle.nob_model_work.specs.declared.work.Outstanding.{Outstanding}
use Rattle.nob_model_work.specs.declared.work.Run.{Run}
use Rattle.nob_model_work.specs.Work.{work, with_loans, run_after}
use Rattle.nob_model_history.specs.Holds.{times, lent_in, loans_of, copies_lent, target_lent, is_lent}
use Rattle.nob_model_history.proofs.Turning.{after_answer, same_ref}
use Rattle.nob_model.specs.Right.{own_ref}
use Rattle.nob_model.specs.Lists.{AreRightDeeds}
use Rattle.nob_model.proofs.Lending.{AreLent, IsAllLent, all_lent}
use Rattle.nob_model.proofs.Made.{all_fixed, work_fixed}
use Rattle.nob_space_state.proofs.Claiming.{times_lent}
use Rattle.nob_space_state.proofs.Counted.{times_both}
use Rattle.nob_space_state.proofs.Returned.{times_one}
use Rattle.nob_space_items.specs.Fronts.{IsFront}
use Rattle.nob_space_messages.specs.Waiting.{is_due, waits_for, granted_copy, granted_message, due_to, due_to_all}
use Rattle.nob_space_items.proofs.Owners.{awaited, turned}

-- ---- lists

-- two functions agree on what one of them fixes
maps_agree : {A : Type 0} (f g h : A → A) → ((x : A) → f x ≡ x → g x ≡ h x) → (xs : List A) → AllByRecursion (λ x. f x ≡ x) xs → map g xs ≡ map h xs
maps_agree f g h agree [] fixed = refl
maps_agree {A} f g h agree (x ∷ xs) fixed = ap (λ (y : A). y ∷ map g xs) (agree x fixed.0) ∙ ap (λ ys. h x ∷ ys) (maps_agree f g h agree xs fixed.1)

all_kept : {A : Type 0} (P : A → Type 0) (f : A → A) → ((x : A) → P x → f x ≡ x) → (xs : List A) → AllByRecursion P xs → map f xs ≡ xs
all_kept P f keeps [] all = refl
all_kept {A} P f keeps (x ∷ xs) all = ap (λ (y : A). y ∷ map f xs) (keeps x all.0) ∙ ap (λ ys. x ∷ ys) (all_kept P f keeps xs all.1)

-- ---- loans

same_loan : (loan : Loan) → loan_after false loan ≡ loan
same_loan loans.Due = refl
same_loan loans.Lent = refl
same_loan loans.Never = refl

own_too : (b : Bool) → (b || true) ≡ true
own_too true = refl
own_too false = refl

-- a message that has lent all stays what it is
lent_stays : (s n : ℕ) (D : List Deed) (m : Message) → IsAllLent m → message_after s n D m ≡ m
unfolding message_after copy_after
lent_stays s n D m all = ap (λ (copies : List RefCopy). record { from = m.from; session = m.session; number = m.number; item = m.item; copies = copies }) (copies m.copies all)
  where
    made : (b : Bool) (loan : Loan) → loan ≡ loans.Lent → loan_after b loan ≡ loan
    made b loan lent = ap (loan_after b) lent ∙ sym lent

    copies : (cs : List RefCopy) → AllByRecursion (λ (copy : RefCopy). copy.loan ≡ loans.Lent) cs → map (λ copy. copy_after s n D copy) cs ≡ cs
    copies cs all = all_kept (λ (copy : RefCopy). copy.loan ≡ loans.Lent) (λ copy. copy_after s n D copy) (λ copy lent. ap (λ (loan : Loan). record { rep = copy.rep; loan = loan }) (made (is_own s copy.rep || is_usable s n copy.rep D) copy.loan lent)) cs all

module _ {s n p k : ℕ} {D : List Deed} (index : ℕ) (front : IsFront s n p k (items.DirtyOk index) D) (there : item_at p k D ≡ Some (items.DirtyOk index)) where
  -- the reference is granted, and every other stays what it was
  granted_is : (rep : WireRep) → is_granted (turns s n rep (Act p k ∷ D)) ≡ (if is_same (own_ref p index) rep then true else is_granted (turns s n rep D))
  granted_is rep = ap is_granted (turned true index front there rep) ∙ elim (is_same (own_ref p index) rep) as (λ b. is_same (own_ref p index) rep ≡ b → is_granted (if b then with_answer said.Granted (turns s n rep D) else turns s n rep D) ≡ (if b then true else is_granted (turns s n rep D))) [
    | true ↦ λ same. (after_answer said.Granted (turns s n rep D) (subst (λ (w : WireRep). is_pending (turns s n w D) ≡ true) (same_ref (own_ref p index) rep same) (awaited true index front))).1
    | false ↦ λ _. refl
  ] refl

  -- a copy whose loan was made as far as it could be
  copy_granted : (copy : RefCopy) → copy_after s n D copy ≡ copy → copy_after s n (Act p k ∷ D) copy ≡ granted_copy (own_ref p index) copy
  unfolding copy_after
  copy_granted copy fixed =
      let was : loan_after (is_own s copy.rep || is_usable s n copy.rep D) copy.loan ≡ copy.loan = ap (λ (c : RefCopy). c.loan) fixed in
      ap (λ (loan : Loan). record { rep = copy.rep; loan = loan })
      (ap (λ b. loan_after (is_own s copy.rep || (b && not (closed copy.rep.owner D))) copy.loan) (granted_is copy.rep)
      ∙ elim (is_same (own_ref p index) copy.rep) as (λ b. is_same (own_ref p index) copy.rep ≡ b → loan_after (is_own s copy.rep || ((if b then true else is_granted (turns s n copy.rep D)) && not (closed copy.rep.owner D))) copy.loan ≡ loan_after b copy.loan) [
        | true ↦ λ same.
            let up : closed copy.rep.owner D ≡ false = ap (λ (w : WireRep). closed w.owner D) (sym (same_ref (own_ref p index) copy.rep same)) ∙ front.is_open in
            ap (λ b. loan_after (is_own s copy.rep || not b) copy.loan) up ∙ ap (λ b. loan_after b copy.loan) (own_too (is_own s copy.rep))
        | false ↦ λ _. was ∙ sym (same_loan copy.loan)
      ] refl)

  message_granted : (m : Message) → message_after s n D m ≡ m → message_after s n (Act p k ∷ D) m ≡ granted_message (own_ref p index) m
  unfolding message_after
  message_granted m fixed =
      let each : AllByRecursion (λ (copy : RefCopy). copy_after s n D copy ≡ copy) m.copies = all_fixed (λ copy. copy_after s n D copy) m.copies (ap (λ (x : Message). x.copies) fixed) in
      ap (λ (copies : List RefCopy). record { from = m.from; session = m.session; number = m.number; item = m.item; copies = copies })
      (maps_agree (λ copy. copy_after s n D copy) (λ copy. copy_after s n (Act p k ∷ D) copy) (granted_copy (own_ref p index)) copy_granted m.copies each)

  -- the loans that are made where a reference is granted are those to messages that wait
  pub granted_loans : (limits : Limits) → AreRightDeeds s n limits D
      → with_loans s n (Act p k ∷ D) (work s n D) ≡ record { waiting = map (granted_message (own_ref p index)) (work s n D).waiting; ready = (work s n D).ready; running = (work s n D).running; replies = (work s n D).replies; calls = (work s n D).calls }
  unfolding with_loans run_after
  granted_loans limits right =
      let W : Outstanding = work s n D in
      let lent : AreLent s n D W = all_lent s n limits D right in
      let waiting : map (λ message. message_after s n (Act p k ∷ D) message) W.waiting ≡ map (granted_message (own_ref p index)) W.waiting =
      maps_agree (λ message. message_after s n D message) (λ message. message_after s n (Act p k ∷ D) message) (granted_message (own_ref p index)) message_granted W.waiting (work_fixed s n D).waiting in
      let ready : map (λ message. message_after s n (Act p k ∷ D) message) W.ready ≡ W.ready = all_kept IsAllLent (λ message. message_after s n (Act p k ∷ D) message) (λ m all. lent_stays s n (Act p k ∷ D) m all) W.ready lent.ready in
      let running : map (λ run. run_after s n (Act p k ∷ D) run) W.running ≡ W.running = all_kept (λ (run : Run). IsAllLent run.message) (λ run. run_after s n (Act p k ∷ D) run) (λ run all. ap (λ (m : Message). record { job = run.job; message = m }) (lent_stays s n (Act p k ∷ D) run.message all)) W.running lent.running in
      let replies : map (λ message. message_after s n (Act p k ∷ D) message) W.replies ≡ W.replies = all_kept IsAllLent (λ message. message_after s n (Act p k ∷ D) message) (λ m all. lent_stays s n (Act p k ∷ D) m all) W.replies lent.replies in
      λ i. record { waiting = waiting i; ready = ready i; running = running i; replies = replies i; calls = W.calls }

-- ---- how much more is lent

-- so many loans of a reference
abbrev pub of_times : WireRep → WireRep → ℕ → ℕ
of_times rep other count = if is_same rep other then count else 0

of_more : (rep other : WireRep) (a b : ℕ) → of_times rep other (a + b) ≡ of_times rep other a + of_times rep other b
of_more rep other a b = elim (is_same rep other) as (λ c. (if c then a + b else 0) ≡ (if c then a else 0) + (if c then b else 0)) [ true ↦ refl | false ↦ refl ]

-- one copy more
lend_step : (rep other w : WireRep) (loan : Loan) (b : Bool) (new old waits : List RefCopy) → is_same rep w ≡ b → times other (map (λ (copy : RefCopy). copy.rep) new) ≡ times other (map (λ (copy : RefCopy). copy.rep) old) + of_times rep other (length waits)
    → times other (map (λ (copy : RefCopy). copy.rep) (cond (is_lent (loan_after b loan)) (record { rep = w; loan = loan_after b loan } ∷ new) new)) ≡ times other (map (λ (copy : RefCopy). copy.rep) (cond (is_lent loan) (record { rep = w; loan = loan } ∷ old) old)) + of_times rep other (length (cond (b && is_due loan) (record { rep = w; loan = loan } ∷ waits) waits))
lend_step rep other w loans.Lent true new old waits same rest =
    let more = times_both other (w ∷ []) (map (λ (copy : RefCopy). copy.rep) new) in
    let before = times_both other (w ∷ []) (map (λ (copy : RefCopy). copy.rep) old) in
    omega (arith, more, before, rest)
lend_step rep other w loans.Lent false new old waits same rest =
    let more = times_both other (w ∷ []) (map (λ (copy : RefCopy). copy.rep) new) in
    let before = times_both other (w ∷ []) (map (λ (copy : RefCopy). copy.rep) old) in
    omega (arith, more, before, rest)
lend_step rep other w loans.Never true new old waits same rest = rest
lend_step rep other w loans.Never false new old waits same rest = rest
lend_step rep other w loans.Due false new old waits same rest = rest
lend_step rep other w loans.Due true new old waits same rest =
    let more = times_both other (w ∷ []) (map (λ (copy : RefCopy). copy.rep) new) in
    let here : times other (w ∷ []) ≡ of_times rep other 1 = ap (λ (r : WireRep). times other (r ∷ [])) (sym (same_ref rep w same)) ∙ times_one rep other in
    let one = of_more rep other 1 (length waits) in
    let next : 1 + length waits ≡ length (record { rep = w; loan = loans.Due } ∷ waits) = omega arith in
    let all : of_times rep other (length (record { rep = w; loan = loans.Due } ∷ waits)) ≡ of_times rep other 1 + of_times rep other (length waits) = ap (of_times rep other) (sym next) ∙ one in
    omega (arith, more, here, rest, all)

-- the copies of a message
copies_lend : (rep other : WireRep) (cs : List RefCopy) → times other (copies_lent (map (granted_copy rep) cs)) ≡ times other (copies_lent cs) + of_times rep other (length (filter (waits_for rep) cs))
copies_lend rep other [] = elim (is_same rep other) as (λ b. 0 ≡ 0 + (if b then 0 else 0)) [ true ↦ omega arith | false ↦ omega arith ]
copies_lend rep other (copy ∷ cs) = lend_step rep other copy.rep copy.loan (is_same rep copy.rep) (filter (λ (one : RefCopy). is_lent one.loan) (map (granted_copy rep) cs)) (filter (λ (one : RefCopy). is_lent one.loan) cs) (filter (waits_for rep) cs) refl (copies_lend rep other cs)

-- a message
message_lends : (s : ℕ) (rep other : WireRep) (m : Message) → times other (loans_of s (granted_message rep m)) ≡ times other (loans_of s m) + of_times rep other (due_to rep m)
message_lends s rep other m =
    let after = times_both other (target_lent s m.item) (copies_lent (map (granted_copy rep) m.copies)) in
    let before = times_both other (target_lent s m.item) (copies_lent m.copies) in
    let more = copies_lend rep other m.copies in
    omega (arith, after, before, more)

-- messages
messages_lend : (s : ℕ) (rep other : WireRep) (ms : List Message) → times other (flat_map (loans_of s) (map (granted_message rep) ms)) ≡ times other (flat_map (loans_of s) ms) + of_times rep other (due_to_all rep ms)
messages_lend s rep other [] = elim (is_same rep other) as (λ b. 0 ≡ 0 + (if b then 0 else 0)) [ true ↦ omega arith | false ↦ omega arith ]
messages_lend s rep other (m ∷ ms) =
    let after = times_both other (loans_of s (granted_message rep m)) (flat_map (loans_of s) (map (granted_message rep) ms)) in
    let before = times_both other (loans_of s m) (flat_map (loans_of s) ms) in
    let here = message_lends s rep other m in
    let rest = messages_lend s rep other ms in
    let both = of_more rep other (due_to rep m) (due_to_all rep ms) in
    omega (arith, after, before, here, rest, both)

-- the outstanding work with the loans to messages that wait made
abbrev pub with_granted : WireRep → Outstanding → Outstanding
with_granted rep W = record { waiting = map (granted_message rep) W.waiting; ready = W.ready; running = W.running; replies = W.replies; calls = W.calls }

-- all that is lent
pub granted_lends : (s : ℕ) (rep other : WireRep) (W : Outstanding) → times other (lent_in s (with_granted rep W)) ≡ times other (lent_in s W) + of_times rep other (due_to_all rep W.waiting)
granted_lends s rep other W =
    let after = times_lent s other (with_granted rep W) in
    let before = times_lent s other W in
    let more = messages_lend s rep other W.waiting in
    omega (arith, after, before, more)

-- a reference so often
pub replicate_next : (count : ℕ) (rep : WireRep) → replicate (count + 1) rep ≡ replicate count rep ++ rep ∷ []
replicate_next count rep = sym (replicate-append-replicate count 1 rep)

pub times_replicate : (rep other : WireRep) (count : ℕ) → times other (replicate count rep) ≡ of_times rep other count
times_replicate rep other zero = none (is_same rep other)
  where
    none : (b : Bool) → length (filter (is_same other) []) ≡ (if b then 0 else 0)
    none true = refl
    none false = refl
times_replicate rep other (suc count) =
    let next : suc count ≡ count + 1 = omega arith in
    let more = times_both other (replicate count rep) (rep ∷ []) in
    let here = times_one rep other in
    let rest = times_replicate rep other count in
    let both = of_more rep other count 1 in
    ap (λ c. times other (replicate c rep)) next ∙ ap (times other) (replicate_next count rep) ∙ more ∙ ap (λ a. a + times other (rep ∷ [])) rest ∙ ap (λ a. of_times rep other count + a) here ∙ sym both ∙ ap (of_times rep other) (sym next)
