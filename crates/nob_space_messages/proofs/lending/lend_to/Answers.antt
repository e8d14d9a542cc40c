use Rattle.std.proofs.Common.{◌≡◌, ◌+◌, ◌<◌, ◌++◌, List, length, map, take, drop, rules, true, false, get_or, sym, ap, subst, ◌∙◌, arith}
use Rattle.nob_model_types.specs.declared.message.Message.{Message}
use Rattle.nob_model_types.specs.declared.message.RefCopy.{RefCopy}
use Rattle.nob_model_types.specs.declared.message.Loan.{Loan}
use Rattle.nob_model_types.specs.declared.message.Loan.TheVariants as loans
use Rattle.nob_model_types.proofs.Mapped.{changed_next, here_is}
use Rattle.nob_space_messages.specs.Waiting.{waits_for, granted_copy}
use Rattle.nob_space_messages.proofs.Granting.{few_first, kept_next, pass_next, waits_granted, else_granted}
use Rattle.nob_space_messages.proofs.lending.lend_to.Goals as goal
use Rattle.nob_space_messages.proofs.lending.lend_to.Goals.{then-waits_for, else-waits_for}

pub overflow_add-lent : goal.overflow_add-lent
overflow_add-lent c =
    let few = few_first (waits_for c.args.rep.now) c.args.message.now.copies c.loop-place.place in
    let count = c.loop-place.invariant.count in
    let under : c.loop-place.place < length c.as_slice-place-end.result.now = search rules in
    let bound : length c.as_slice-place-end.result.now < 18446744073709551616 = search rules in
    omega (arith, few, count, under, bound)

pub loop-place-preserved : goal.loop-place-preserved
loop-place-preserved c =
    let lt : c.loop-place.place < length c.args.message.now.copies = subst (λ (copies : List RefCopy). c.loop-place.place < length copies) c.as_slice-place-end.ensures c.loop-place-test.true in
    let now : c.loop-place.message.copies ≡ map (granted_copy c.args.rep.now) (take c.loop-place.place c.args.message.now.copies) ++ drop c.loop-place.place c.args.message.now.copies = ap (λ (m : Message). m.copies) c.loop-place.invariant.message in
    let is : c.index-as_slice-place.result ≡ get_or c.loop-place.message.copies c.loop-place.place c.index-as_slice-place.result = c.index-as_slice-place.is ∙ ap (λ (copies : List RefCopy). get_or copies c.loop-place.place c.index-as_slice-place.result) c.as_slice.ensures in
    let first : c.index-as_slice-place.result ≡ get_or c.args.message.now.copies c.loop-place.place c.index-as_slice-place.result = here_is (granted_copy c.args.rep.now) c.args.message.now.copies c.loop-place.message.copies c.loop-place.place c.index-as_slice-place.result now lt is in
    let count = c.loop-place.invariant.count in
    elim c.if-waits_for.branch [
      | then-waits_for w ↦
          let waits : waits_for c.args.rep.now c.index-as_slice-place.result ≡ true = sym c.waits_for.ensures ∙ w.if-waits_for.true in
          let written : record { rep = c.index-as_slice-place.result.rep; loan = loans.Lent } ≡ granted_copy c.args.rep.now c.index-as_slice-place.result = ap (λ (loan : Loan). record { rep = c.index-as_slice-place.result.rep; loan = loan }) (waits_granted c.args.rep.now c.index-as_slice-place.result.rep c.index-as_slice-place.result.loan waits) in
          let copies : w.set.new.self ≡ map (granted_copy c.args.rep.now) (take (c.loop-place.place + 1) c.args.message.now.copies) ++ drop (c.loop-place.place + 1) c.args.message.now.copies =
          w.set.ensures ∙ changed_next (granted_copy c.args.rep.now) c.args.message.now.copies c.loop-place.message.copies c.loop-place.place c.index-as_slice-place.result (record { rep = c.index-as_slice-place.result.rep; loan = loans.Lent }) now lt is written in
          let more = pass_next (waits_for c.args.rep.now) c.args.message.now.copies c.loop-place.place c.index-as_slice-place.result true lt first waits in
          let lent = w.lent-is in
          record {
            message = w.message-is ∙ (λ i. record { from = (c.loop-place.invariant.message i).from; session = (c.loop-place.invariant.message i).session; number = (c.loop-place.invariant.message i).number; item = (c.loop-place.invariant.message i).item; copies = copies i });
            count = omega (arith, lent, count, more);
          }
      | else-waits_for w ↦
          let waits : waits_for c.args.rep.now c.index-as_slice-place.result ≡ false = sym c.waits_for.ensures ∙ w.if-waits_for.false in
          let kept : c.index-as_slice-place.result ≡ granted_copy c.args.rep.now c.index-as_slice-place.result = ap (λ (loan : Loan). record { rep = c.index-as_slice-place.result.rep; loan = loan }) (else_granted c.args.rep.now c.index-as_slice-place.result.rep c.index-as_slice-place.result.loan waits) in
          let copies : c.loop-place.message.copies ≡ map (granted_copy c.args.rep.now) (take (c.loop-place.place + 1) c.args.message.now.copies) ++ drop (c.loop-place.place + 1) c.args.message.now.copies =
          kept_next (granted_copy c.args.rep.now) c.args.message.now.copies c.loop-place.message.copies c.loop-place.place c.index-as_slice-place.result now lt is kept in
          let more = pass_next (waits_for c.args.rep.now) c.args.message.now.copies c.loop-place.place c.index-as_slice-place.result false lt first waits in
          let lent = w.lent-is in
          record {
            message = w.message-is ∙ (λ i. record { from = (c.loop-place.invariant.message i).from; session = (c.loop-place.invariant.message i).session; number = (c.loop-place.invariant.message i).number; item = (c.loop-place.invariant.message i).item; copies = copies i });
            count = omega (arith, lent, count, more);
          }
    ]
