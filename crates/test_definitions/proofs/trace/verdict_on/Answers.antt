use Rattle.std.proofs.Common.{◌≡◌, true}
use Rattle.std.specs.String.{string_bytes}
use Rattle.test_definitions.proofs.Judging.{IsRightAfter, said_wrong}
use Rattle.test_definitions.proofs.trace.verdict_on.Goals as goal

pub returns-then-not-branch : goal.returns-then-not-branch
returns-then-not-branch c =
    let e = c.index-all-place.result in
    let wrong : IsRightAfter c.args.trace.now c.loop-place.before.items e → ⊥ = λ r. let yes : c.in_ok-is_right.field-0 ≡ true = c.in_ok-is_right.ensures.1 (rw (c.get.ensures.value, c.as_slice.ensures.value) r) in let no = c.if-not-branch.true in absurd cc in
    said_wrong string_bytes c.wrong_line.result c.args.trace.now c.loop-place.place e c.loop-place.before.items (rw (← c.as_slice-all.ensures) c.loop-place-test.true) (rw (← c.as_slice-all.ensures) c.index-all-place.is) wrong c.loop-place.invariant.3 c.wrong_line.ensures
