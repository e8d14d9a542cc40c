-- A message that waits may be settled where each loan that is due is of a reference that isn't awaited: those are the
-- messages whose references are all resolved.
use Rattle.std.proofs.Common.{◌≡◌, ℕ, ◌≤◌, Bool, true, false, not, cond, ◌&&◌, ◌||◌, nat_lt, List, [], ◌∷◌, length, filter, find, Some, refl, sym, ap, subst, ◌∙◌, arith}
use Rattle.std.specs.List.{AllByRecursion, list_all}
use Rattle.std.proofs.lemmas.Bool.Decides.{nat_tests}
use Rattle.nob_ids.specs.declared.limits.Limits.{Limits}
use Rattle.nob_ids.specs.declared.wire_rep.WireRep.{WireRep}
use Rattle.nob_model_types.specs.declared.deed.Deed.{Deed}
use Rattle.nob_model_types.specs.declared.message.Loan.{Loan}
use Rattle.nob_model_types.specs.declared.message.Loan.TheVariants as loans
use Rattle.nob_model_types.specs.declared.message.Message.{Message}
use Rattle.nob_model_types.specs.declared.message.RefCopy.{RefCopy}
use Rattle.nob_model_types.specs.Messages.{loan_after, copy_after, message_after}
use Rattle.nob_model_types.specs.Sessions.{is_peer, closed}
use Rattle.nob_model_types.specs.Turns.{turns, is_own, is_usable, is_lost, is_resolved, is_granted, is_refused}
use Rattle.nob_model_work.specs.declared.work.Outstanding.{Outstanding}
use Rattle.nob_model_work.specs.Work.{work}
use Rattle.nob_model_history.specs.Histories.{history_of}
use Rattle.nob_model_history.proofs.Dirtying.{same_self}
use Rattle.nob_model_acting.specs.Candidates.{is_all_resolved, to_settle}
use Rattle.nob_model.proofs.Lending.{NeverLost, all_lent}
use Rattle.nob_model.proofs.Made.{all_fixed, work_fixed}
use Rattle.nob_model.proofs.Waiting.{all_weaker}
use Rattle.nob_model_holdings.proofs.Granted.{is_owned, LendsOwned}
use Rattle.nob_model_holdings.proofs.Holdings.{holds_owned}
use Rattle.nob_space_state.specs.Parts.{State}
use Rattle.nob_space_state.specs.Stands.{Stands}
use Rattle.nob_space_messages.specs.Waiting.{is_due, is_due_where, is_awaited, waits_for, due_to, due_to_all}

-- whether a message may be settled, by the state: each copy whose loan is due is of a reference that isn't awaited
abbrev pub is_settleable : State → Message → Bool
is_settleable st message = list_all (λ copy. not (is_due_where (is_awaited st.awaited) copy)) message.copies

-- ---- one copy

-- what is granted is usable, or lost where its session has closed
granted_resolved : (own granted shut peer refused : Bool) → (own || granted) ≡ true → (own || (granted && not shut) || (not own && (not peer || shut || refused))) ≡ true
granted_resolved true granted shut peer refused is = refl
granted_resolved false true false peer refused is = refl
granted_resolved false true true true refused is = refl
granted_resolved false true true false refused is = refl
granted_resolved false false shut peer refused is = absurd (let clash : false ≡ true = is in cc)

lost_resolved : (own usable lost : Bool) → lost ≡ true → (own || usable || lost) ≡ true
lost_resolved true usable lost is = refl
lost_resolved false true lost is = refl
lost_resolved false false lost is = is

-- a loan that stays due is of a reference that is neither own nor usable
due_resolved : (own usable lost awaited : Bool) → loan_after (own || usable) loans.Due ≡ loans.Due → awaited ≡ not lost → not (true && awaited) ≡ (own || usable || lost)
due_resolved true usable lost awaited fixed is = absurd (let clash : loans.Lent ≡ loans.Due = fixed in cc)
due_resolved false true lost awaited fixed is = absurd (let clash : loans.Lent ≡ loans.Due = fixed in cc)
due_resolved false false true awaited fixed is = ap (λ b. not b) is
due_resolved false false false awaited fixed is = ap (λ b. not b) is

-- a copy doesn't keep its message where its reference is resolved
copy_resolved : (s n : ℕ) (D : List Deed) (awaited : Bool) (rep : WireRep) (loan : Loan) → (loan ≡ loans.Lent → is_owned s n rep D ≡ true) → (loan ≡ loans.Never → is_lost s n rep D ≡ true) → loan_after (is_own s rep || is_usable s n rep D) loan ≡ loan → (is_due loan ≡ true → awaited ≡ not (is_lost s n rep D))
    → not (is_due loan && awaited) ≡ is_resolved s n rep D
copy_resolved s n D awaited rep loans.Lent owned never fixed waits = sym (granted_resolved (is_own s rep) (is_granted (turns s n rep D)) (closed rep.owner D) (is_peer s n rep.owner) (is_refused (turns s n rep D)) (owned refl))
copy_resolved s n D awaited rep loans.Never owned never fixed waits = sym (lost_resolved (is_own s rep) (is_usable s n rep D) (is_lost s n rep D) (never refl))
copy_resolved s n D awaited rep loans.Due owned never fixed waits = due_resolved (is_own s rep) (is_usable s n rep D) (is_lost s n rep D) awaited fixed (waits refl)

-- ---- what is due

-- one that passes a test, and those that did
first_passes : {X : Type 0} (test : X → Bool) (x : X) (xs : List X) → test x ≡ true → 1 ≤ length (filter test (x ∷ xs))
first_passes test x xs passes = subst (λ (b : Bool). 1 ≤ length (cond b (x ∷ filter test xs) (filter test xs))) (sym passes) (omega arith)

more_pass : {X : Type 0} (test : X → Bool) (x : X) (xs : List X) → 1 ≤ length (filter test xs) → 1 ≤ length (filter test (x ∷ xs))
more_pass test x xs some = elim (test x) as (λ (b : Bool). 1 ≤ length (cond b (x ∷ filter test xs) (filter test xs))) [ true ↦ omega (arith, some) | false ↦ some ]

due_here : (copy : RefCopy) → is_due copy.loan ≡ true → waits_for copy.rep copy ≡ true
due_here copy due = rw (same_self copy.rep, due) refl

-- ---- the loans of a message that waits

loans_fixed : (s n : ℕ) (D : List Deed) (m : Message) → message_after s n D m ≡ m → AllByRecursion (λ (copy : RefCopy). loan_after (is_own s copy.rep || is_usable s n copy.rep D) copy.loan ≡ copy.loan) m.copies
unfolding message_after copy_after
loans_fixed s n D m same =
    all_weaker (λ (copy : RefCopy). copy_after s n D copy ≡ copy) (λ (copy : RefCopy). loan_after (is_own s copy.rep || is_usable s n copy.rep D) copy.loan ≡ copy.loan) (λ copy fixed. ap (λ (c : RefCopy). c.loan) fixed) m.copies
    (all_fixed (λ copy. copy_after s n D copy) m.copies (ap (λ (o : Message). o.copies) same))

module _ (s n : ℕ) (D : List Deed) (awaited : List WireRep) where
  copies_resolved : (copies : List RefCopy)
      → AllByRecursion (λ (copy : RefCopy). copy.loan ≡ loans.Lent → is_owned s n copy.rep D ≡ true) copies
      → AllByRecursion (λ (copy : RefCopy). copy.loan ≡ loans.Never → is_lost s n copy.rep D ≡ true) copies
      → AllByRecursion (λ (copy : RefCopy). loan_after (is_own s copy.rep || is_usable s n copy.rep D) copy.loan ≡ copy.loan) copies
      → ((rep : WireRep) → 1 ≤ length (filter (waits_for rep) copies) → is_awaited awaited rep ≡ not (is_lost s n rep D))
      → list_all (λ (copy : RefCopy). not (is_due_where (is_awaited awaited) copy)) copies ≡ list_all (λ (copy : RefCopy). is_resolved s n copy.rep D) copies
  copies_resolved [] owned never fixed waits = refl
  copies_resolved (copy ∷ copies) owned never fixed waits =
      let one = copy_resolved s n D (is_awaited awaited copy.rep) copy.rep copy.loan owned.0 never.0 fixed.0 (λ due. waits copy.rep (first_passes (waits_for copy.rep) copy copies (due_here copy due))) in
      let others = copies_resolved copies owned.1 never.1 fixed.1 (λ rep some. waits rep (more_pass (waits_for rep) copy copies some)) in
      λ i. one i && others i

  first_found : (messages : List Message) → AllByRecursion (LendsOwned s n D) messages → AllByRecursion (NeverLost s n D) messages → AllByRecursion (λ message. message_after s n D message ≡ message) messages
      → ((rep : WireRep) → 1 ≤ due_to_all rep messages → is_awaited awaited rep ≡ not (is_lost s n rep D))
      → find (λ (message : Message). list_all (λ (copy : RefCopy). not (is_due_where (is_awaited awaited) copy)) message.copies) messages ≡ find (is_all_resolved s n (history_of s n D)) messages
  first_found [] owned never fixed waits = refl
  first_found (m ∷ messages) owned never fixed waits =
      let one = copies_resolved m.copies owned.0 never.0 (loans_fixed s n D m fixed.0) (λ rep some. waits rep (let more : 1 ≤ due_to rep m = some in omega (arith, more))) in
      let others = first_found messages owned.1 never.1 fixed.1 (λ rep some. waits rep (omega (arith, some))) in
      λ i. cond (one i) (Some m) (others i)

-- ---- by the state

some_due : (k : ℕ) → 1 ≤ k → nat_lt 0 k ≡ true
some_due k some = grind (arith, nat_tests, some)

-- the first message that may be settled is the first whose references are resolved
pub to_settle_there : {s n : ℕ} {limits : Limits} {st : State} {D : List Deed} → Stands s n limits st D → to_settle s n (history_of s n D) ≡ find (is_settleable st) st.work.waiting
to_settle_there {s} {n} {limits} {st} {D} stands =
    sym (first_found s n D st.awaited (work s n D).waiting (holds_owned s n limits D stands.right).lent.waiting (all_lent s n limits D stands.right).never (work_fixed s n D).waiting
    (λ rep some. stands.awaited rep (some_due (due_to_all rep st.work.waiting) (subst (λ (W : Outstanding). 1 ≤ due_to_all rep W.waiting) (sym stands.work) some))))
    ∙ ap (λ (W : Outstanding). find (is_settleable st) W.waiting) (sym stands.work)
