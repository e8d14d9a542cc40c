use Rattle.std.proofs.Common.{◌≤◌, arith, if◌then◌else◌, true, false}
use Rattle.nob_space_messages.specs.Waiting.{is_due, waits_for}
use Rattle.nob_space_messages.proofs.Granting.{few_first}
use Rattle.nob_space_messages.proofs.waits.line_up.Goals as goal

pub line_one-waits-requires-clause-small : goal.line_one-waits-requires-clause-small
line_one-waits-requires-clause-small c =
    let its = c.loop-copy.invariant.1 c.copy-item.result.rep in
    let few = few_first (waits_for c.copy-item.result.rep) c.args.copies.now c.loop-copy.copy-index in
    let small = c.requires.small c.copy-item.result.rep in
    let under = c.loop-copy-test.true in
    omega (arith, its, few, small, under)

pub overflow_add-waits : goal.overflow_add-waits
overflow_add-waits c =
    let its = c.loop-copy.invariant.0 in
    let few = few_first (λ copy. is_due copy.loan) c.args.copies.now c.loop-copy.copy-index in
    let small = c.requires.small c.copy-item.result.rep in
    let under = c.loop-copy-test.true in
    let count = c.line_one-waits.ensures.count in
    let one : (if is_due c.copy-item.result.loan then 1 else 0) ≤ 1 = elim (is_due c.copy-item.result.loan) as (λ b. (if b then 1 else 0) ≤ 1) [ true ↦ omega arith | false ↦ omega arith ] in
    omega (arith, its, few, small, under, count, one)
