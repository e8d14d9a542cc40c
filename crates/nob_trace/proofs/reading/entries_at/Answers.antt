use Rattle.std.proofs.Common.{◌<◌, ◌≤◌, ℕ, List, length, sym, subst, arith}
use Rattle.nob_trace.specs.declared.stamped.Stamped.{Stamped}
use Rattle.nob_trace.specs.Stamps.{last_stamp}
use Rattle.nob_trace.proofs.ReadLines.{FoundSoFar, OnlySoFar, by_error, found_next, no_line, no_stamp, only_end, only_next, passed, unread_next}
use Rattle.nob_trace.proofs.reading.entries_at.Goals as goal

pub returns-in_default-clause-only : goal.returns-in_default-clause-only
returns-in_default-clause-only c all rest long rise traced spelt =
    let less : length c.loop-alloc.all < c.args.count = let l = c.len.ensures in let t = c.loop-alloc-test.true in omega (arith, l, t) in
    no_line c.args.version c.args.text.now c.args.count c.loop-alloc.all c.loop-alloc.left.now less c.in_default.ensures c.loop-alloc.invariant.1 all rest long rise traced spelt

pub returns-in_err-entry-clause-only : goal.returns-in_err-entry-clause-only
returns-in_err-entry-clause-only c all rest long rise traced spelt =
    let less : length c.loop-alloc.all < c.args.count = let l = c.len.ensures in let t = c.loop-alloc-test.true in omega (arith, l, t) in
    passed _ _ c.from_residual.result c.in_err-entry.field-0.0 c.from_residual.ensures.1
    (unread_next c.args.version c.args.text.now c.args.count c.loop-alloc.all c.loop-alloc.left.now c.in-Some.line.now c.in-Some.rest.now c.in_err-entry.field-0.0 less c.in-Some.ensures (λ e is text. by_error _ (c.in_err-entry.ensures.only e is text)) c.loop-alloc.invariant.1 all rest long rise traced spelt)

pub returns-then-entry-last_stamp-clause-only : goal.returns-then-entry-last_stamp-clause-only
returns-then-entry-last_stamp-clause-only c all rest long rise traced spelt =
    let less : length c.loop-alloc.all < c.args.count = let l = c.len.ensures in let t = c.loop-alloc-test.true in omega (arith, l, t) in
    let low : c.in_ok-entry.entry.stamp ≤ last_stamp 0 c.loop-alloc.all = subst (λ (n : ℕ). c.in_ok-entry.entry.stamp ≤ n) c.last_stamp.ensures c.if-entry-last_stamp.true in
    no_stamp c.args.version c.args.text.now c.args.count c.loop-alloc.all c.loop-alloc.left.now c.in-Some.line.now c.in-Some.rest.now c.in_ok-entry.entry less c.in-Some.ensures c.in_ok-entry.ensures.only low c.loop-alloc.invariant.1 all rest long rise traced spelt

pub loop-alloc-preserved : goal.loop-alloc-preserved
loop-alloc-preserved c =
    let less : length c.loop-alloc.all < c.args.count = let l = c.len.ensures in let t = c.loop-alloc-test.true in omega (arith, l, t) in
    let above : last_stamp 0 c.loop-alloc.all < c.in_ok-entry.entry.stamp = subst (λ (n : ℕ). n < c.in_ok-entry.entry.stamp) c.last_stamp.ensures c.if-entry-last_stamp.false in
    subst (λ (es : List Stamped). FoundSoFar c.args.version c.args.text.now c.args.count es c.in-Some.rest.now × OnlySoFar c.args.version c.args.text.now c.args.count es c.in-Some.rest.now) (sym c.in_ok-push.ensures.ok) (
      found_next c.args.version c.args.text.now c.args.count c.loop-alloc.all c.loop-alloc.left.now c.in-Some.line.now c.in-Some.rest.now c.in_ok-entry.entry less c.in-Some.ensures c.in_ok-entry.ensures.found above c.loop-alloc.invariant.0,
      only_next c.args.version c.args.text.now c.args.count c.loop-alloc.all c.loop-alloc.left.now c.in-Some.line.now c.in-Some.rest.now c.in_ok-entry.entry less c.in-Some.ensures c.in_ok-entry.ensures.only c.loop-alloc.invariant.1,
    )

pub returns-clause-only : goal.returns-clause-only
returns-clause-only c all rest long rise traced spelt =
    let full : c.args.count ≤ length c.loop-alloc.all = let l = c.len.ensures in let t = c.loop-alloc-test.false in omega (arith, l, t) in
    only_end c.args.version c.args.text.now c.args.count c.loop-alloc.all c.loop-alloc.left.now full c.loop-alloc.invariant.1 all rest long rise traced spelt
