use Rattle.std.proofs.Common.{◌≡◌, Some, slice_get}
use Rattle.nob_model_traces.proofs.Entering.{read}
use Rattle.nob_check.proofs.Answering.{wrong_next}
use Rattle.nob_check.proofs.running.first_wrong.Goals as goal

pub returns-then-not-branch : goal.returns-then-not-branch
returns-then-not-branch c =
    let e = c.stamped-item.result in
    let there : slice_get c.args.trace.now.entries c.loop-place.place ≡ Some e = read c.args.trace.now.entries c.loop-place.place e (rw (← c.as_slice-stamped-items.ensures) c.loop-place-test.true) (rw (← c.as_slice-stamped-items.ensures) c.stamped-item.is) in
    wrong_next c.args.trace.now c.loop-place.place e c.loop-place.space c.in_ok-answers.field-0 there c.loop-place.invariant c.in_ok-answers.ensures.right c.if-not-branch.true
