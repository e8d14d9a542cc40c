-- Which references are awaited: what stays where nothing is lost, and what a closing leaves.
use Rattle.std.proofs.Common.{◌≡◌, ℕ, ◌+◌, ◌≤◌, ◌==◌, nat_lt, Bool, true, false, not, ◌&&◌, ◌||◌, cond, List, [], ◌∷◌, filter, if◌then◌else◌, refl, sym, ap, ◌∙◌, arith}
use Rattle.std.proofs.lemmas.Bool.Decides.{nat_tests}
use Rattle.std.proofs.lemmas.Cmp.{nat_eq_equiv}
use Rattle.nob_ids.specs.declared.reason.Reason.{Reason}
use Rattle.nob_ids.specs.declared.wire_rep.WireRep.{WireRep}
use Rattle.nob_model_types.specs.declared.deed.Cause.{Cause}
use Rattle.nob_model_types.specs.declared.deed.Deed.{Deed}
use Rattle.nob_model_types.specs.declared.deed.Deed.TheVariants.{Closing}
use Rattle.nob_model_types.specs.declared.message.Message.{Message}
use Rattle.nob_model_types.specs.Messages.{is_not_from}
use Rattle.nob_model_types.specs.Sessions.{is_peer, closed}
use Rattle.nob_model_types.specs.Turns.{turns, is_own, is_lost, is_refused}
use Rattle.nob_model_work.specs.Work.{without_first}
use Rattle.nob_space_messages.specs.Waiting.{due_to, due_to_all, is_awaited}
use Rattle.nob_space_state.specs.Stands.{AreAwaited}

-- where neither a session nor the turns for a reference change, it is lost as before
pub same_lost : (s n : ℕ) (rep : WireRep) (D E : List Deed) → closed rep.owner E ≡ closed rep.owner D → turns s n rep E ≡ turns s n rep D → is_lost s n rep E ≡ is_lost s n rep D
same_lost s n rep D E cut turned = λ i. not (is_own s rep) && (not (is_peer s n rep.owner) || cut i || is_refused (turned i))

-- what is awaited stays so where the same is lost
pub still_awaited : (s n : ℕ) (awaited : List WireRep) (waiting : List Message) (D E : List Deed) → AreAwaited s n awaited waiting D → ((rep : WireRep) → is_lost s n rep E ≡ is_lost s n rep D) → AreAwaited s n awaited waiting E
still_awaited s n awaited waiting D E before same = λ rep due. before rep due ∙ ap not (sym (same rep))

-- some loan is due where one is due to fewer messages
due_more : (few many : ℕ) → few ≤ many → nat_lt 0 few ≡ true → nat_lt 0 many ≡ true
due_more few many less some = grind (arith, nat_tests, less, some)

filter_due : (rep : WireRep) (test : Message → Bool) (ms : List Message) → due_to_all rep (filter test ms) ≤ due_to_all rep ms
filter_due rep test [] = omega arith
filter_due rep test (m ∷ ms) =
    let rest : due_to_all rep (filter test ms) ≤ due_to_all rep ms = filter_due rep test ms in
    elim (test m) as (λ b. due_to_all rep (cond b (m ∷ filter test ms) (filter test ms)) ≤ due_to rep m + due_to_all rep ms) [ true ↦ omega (arith, rest) | false ↦ omega (arith, rest) ]

without_due : (rep : WireRep) (test : Message → Bool) (ms : List Message) → due_to_all rep (without_first test ms) ≤ due_to_all rep ms
without_due rep test [] = omega arith
without_due rep test (m ∷ ms) =
    let rest : due_to_all rep (without_first test ms) ≤ due_to_all rep ms = without_due rep test ms in
    elim (test m) as (λ b. due_to_all rep (if b then ms else m ∷ without_first test ms) ≤ due_to rep m + due_to_all rep ms) [ true ↦ omega arith | false ↦ omega (arith, rest) ]

-- what is due to some of the messages is due to them all
pub filter_awaited : (s n : ℕ) (awaited : List WireRep) (D : List Deed) (test : Message → Bool) (ms : List Message) → AreAwaited s n awaited ms D → AreAwaited s n awaited (filter test ms) D
filter_awaited s n awaited D test ms before = λ rep due. before rep (due_more (due_to_all rep (filter test ms)) (due_to_all rep ms) (filter_due rep test ms) due)

-- and to all but one
pub without_awaited : (s n : ℕ) (awaited : List WireRep) (D : List Deed) (test : Message → Bool) (ms : List Message) → AreAwaited s n awaited ms D → AreAwaited s n awaited (without_first test ms) D
without_awaited s n awaited D test ms before = λ rep due. before rep (due_more (due_to_all rep (without_first test ms)) (due_to_all rep ms) (without_due rep test ms) due)

-- the references of a peer whose session closes are lost, and the others as before
closing_lost : (s n p : ℕ) (reason : Reason) (cause : Cause) (D : List Deed) (rep : WireRep) → is_peer s n p ≡ true → not (is_lost s n rep (Closing p reason cause ∷ D)) ≡ (not (rep.owner == p) && not (is_lost s n rep D))
closing_lost s n p reason cause D rep peer = elim (rep.owner == p) as (λ b. rep.owner == p ≡ b → not (is_lost s n rep (Closing p reason cause ∷ D)) ≡ (not b && not (is_lost s n rep D))) [
  | true ↦ λ its.
      let cut : closed rep.owner (Closing p reason cause ∷ D) ≡ true = rw (nat_eq_equiv.symm p rep.owner, its) refl in
      let far : rep.owner == s ≡ false = grind (arith, nat_tests, its, peer) in
      ap not ((λ i. not (far i) && (not (is_peer s n rep.owner) || cut i || is_refused (turns s n rep D))) ∙ whichever (is_peer s n rep.owner))
  | false ↦ λ differs.
      let same : closed rep.owner (Closing p reason cause ∷ D) ≡ closed rep.owner D = rw (nat_eq_equiv.symm p rep.owner, differs) refl in
      ap not (same_lost s n rep D (Closing p reason cause ∷ D) same refl)
] refl
  where
    whichever : (b : Bool) → (not false && (not b || true || is_refused (turns s n rep D))) ≡ true
    whichever true = refl
    whichever false = refl

-- what is awaited once a session has closed
pub closing_awaited : (s n p : ℕ) (reason : Reason) (cause : Cause) (D : List Deed) (old new : List WireRep) (ms : List Message) → is_peer s n p ≡ true → AreAwaited s n old ms D
    → ((rep : WireRep) → is_awaited new rep ≡ (not (rep.owner == p) && is_awaited old rep)) → AreAwaited s n new (filter (is_not_from p) ms) (Closing p reason cause ∷ D)
closing_awaited s n p reason cause D old new ms peer before loses = λ rep due.
    loses rep ∙ ap (λ b. not (rep.owner == p) && b) (filter_awaited s n old D (is_not_from p) ms before rep due) ∙ sym (closing_lost s n p reason cause D rep peer)
