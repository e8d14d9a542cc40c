-- What is lent stays as it is where no reference becomes usable.
use Rattle.std.proofs.Common.{◌≡◌, ℕ, Bool, true, false, ◌||◌, List, map, refl, ap, subst}
use Rattle.nob_ids.specs.declared.wire_rep.WireRep.{WireRep}
use Rattle.nob_model_types.specs.declared.deed.Deed.{Deed}
use Rattle.nob_model_types.specs.declared.message.Loan.{Loan}
use Rattle.nob_model_types.specs.declared.message.Loan.TheVariants as loans
use Rattle.nob_model_types.specs.declared.message.RefCopy.{RefCopy}
use Rattle.nob_model_types.specs.declared.message.Message.{Message}
use Rattle.nob_model_types.specs.Turns.{is_own, is_usable}
use Rattle.nob_model_types.specs.Messages.{loan_after, copy_after, message_after}
use Rattle.nob_model_work.specs.declared.work.Outstanding.{Outstanding}
use Rattle.nob_model_work.specs.declared.work.Run.{Run}
use Rattle.nob_model_work.specs.Work.{run_after}
use Rattle.nob_model.proofs.Waiting.{all_weaker}
use Rattle.nob_model.proofs.Made.{AreFixed, all_fixed, fixed_map}

-- a loan that stays where a reference may be usable stays where it isn't
loan_stays : (before after : Bool) (loan : Loan) → (after ≡ true → before ≡ true) → loan_after before loan ≡ loan → loan_after after loan ≡ loan
loan_stays before true loan less fixed = subst (λ (b : Bool). loan_after b loan ≡ loan) (less refl) fixed
loan_stays before false loans.Due less fixed = refl
loan_stays before false loans.Lent less fixed = refl
loan_stays before false loans.Never less fixed = refl

module _ (s n : ℕ) (D E : List Deed) (less : (rep : WireRep) → is_usable s n rep E ≡ true → is_usable s n rep D ≡ true) where
  own_or : (own before after : Bool) → (after ≡ true → before ≡ true) → (own || after) ≡ true → (own || before) ≡ true
  own_or true before after f is = refl
  own_or false before after f is = f is

  copy_stays : (copy : RefCopy) → copy_after s n D copy ≡ copy → copy_after s n E copy ≡ copy
  unfolding copy_after
  copy_stays copy fixed =
      let same : loan_after (is_own s copy.rep || is_usable s n copy.rep D) copy.loan ≡ copy.loan = ap (λ (c : RefCopy). c.loan) fixed in
      ap (λ (loan : Loan). record { rep = copy.rep; loan = loan }) (loan_stays (is_own s copy.rep || is_usable s n copy.rep D) (is_own s copy.rep || is_usable s n copy.rep E) copy.loan (own_or (is_own s copy.rep) (is_usable s n copy.rep D) (is_usable s n copy.rep E) (less copy.rep)) same)

  message_stays : (message : Message) → message_after s n D message ≡ message → message_after s n E message ≡ message
  unfolding message_after
  message_stays message fixed =
      let copies : map (λ copy. copy_after s n D copy) message.copies ≡ message.copies = ap (λ (m : Message). m.copies) fixed in
      ap (λ (cs : List RefCopy). record { from = message.from; session = message.session; number = message.number; item = message.item; copies = cs })
      (fixed_map (λ copy. copy_after s n E copy) message.copies (all_weaker (λ copy. copy_after s n D copy ≡ copy) (λ copy. copy_after s n E copy ≡ copy) copy_stays message.copies (all_fixed (λ copy. copy_after s n D copy) message.copies copies)))

  run_stays : (run : Run) → run_after s n D run ≡ run → run_after s n E run ≡ run
  unfolding run_after
  run_stays run fixed = ap (λ (m : Message). record { job = run.job; message = m }) (message_stays run.message (ap (λ (r : Run). r.message) fixed))

  -- what is fixed stays fixed
  pub still_fixed : (W : Outstanding) → AreFixed s n D W → AreFixed s n E W
  still_fixed W fixed = record {
    waiting = all_weaker _ _ message_stays W.waiting fixed.waiting;
    ready = all_weaker _ _ message_stays W.ready fixed.ready;
    running = all_weaker _ _ run_stays W.running fixed.running;
    replies = all_weaker _ _ message_stays W.replies fixed.replies;
  }
