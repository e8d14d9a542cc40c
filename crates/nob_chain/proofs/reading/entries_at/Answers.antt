use Rattle.std.proofs.Common.{◌<◌, List, length, sym, subst, arith}
use Rattle.nob_trace.specs.declared.stamped.Stamped.{Stamped}
use Rattle.nob_chain.proofs.ReadEntries.{FoundSoFar, above, entries_error, found_next}
use Rattle.nob_chain.proofs.Memory.{entry_memory, push_memory}
use Rattle.nob_chain.proofs.reading.entries_at.Goals as goal

pub returns-in_err-entry-clause-found : goal.returns-in_err-entry-clause-found
returns-in_err-entry-clause-found c =
    let less : length c.loop-alloc.all < c.args.count = let l = c.len.ensures in let t = c.loop-alloc-test.true in omega (arith, l, t) in
    entries_error _ c.args.last c.args.text.now c.args.count c.loop-alloc.all c.loop-alloc.left.now c.loop-alloc.low c.from_residual.result c.in_err-entry.field-0.0 less c.loop-alloc.invariant c.from_residual.ensures.1 c.in_err-entry.ensures.found

pub push-requires : goal.push-requires
push-requires c = record { rise = above c.args.last c.args.text.now c.args.count c.loop-alloc.all c.loop-alloc.left.now c.loop-alloc.low c.in_ok-entry.entry.stamp c.in_ok-entry.ensures.found.1 c.loop-alloc.invariant }

pub loop-alloc-preserved : goal.loop-alloc-preserved
loop-alloc-preserved c =
    let less : length c.loop-alloc.all < c.args.count = let l = c.len.ensures in let t = c.loop-alloc-test.true in omega (arith, l, t) in
    subst (λ (es : List Stamped). FoundSoFar c.args.last c.args.text.now c.args.count es c.in_ok-entry.rest.now c.in_ok-entry.entry.stamp) (sym c.in_ok-push.ensures.ok)
    (found_next c.args.last c.args.text.now c.args.count c.loop-alloc.all c.loop-alloc.left.now c.in_ok-entry.rest.now c.loop-alloc.low c.in_ok-entry.entry less c.in_ok-entry.ensures.found c.loop-alloc.invariant)

pub returns-in_err-entry-clause-memory : goal.returns-in_err-entry-clause-memory
returns-in_err-entry-clause-memory c =
    let less : length c.loop-alloc.all < c.args.count = let l = c.len.ensures in let t = c.loop-alloc-test.true in omega (arith, l, t) in
    entry_memory c.args.last c.args.text.now c.args.count c.loop-alloc.all c.loop-alloc.left.now c.loop-alloc.low c.from_residual.result c.in_err-entry.field-0.0 less c.loop-alloc.invariant c.from_residual.ensures.1 c.in_err-entry.ensures.memory

pub returns-in_err-push-clause-memory : goal.returns-in_err-push-clause-memory
returns-in_err-push-clause-memory c =
    let less : length c.loop-alloc.all < c.args.count = let l = c.len.ensures in let t = c.loop-alloc-test.true in omega (arith, l, t) in
    push_memory c.args.last c.args.text.now c.args.count c.loop-alloc.all c.loop-alloc.left.now c.in_ok-entry.rest.now c.loop-alloc.low c.in_ok-entry.entry c.from_residual-in_err-push.result less c.loop-alloc.invariant c.in_ok-entry.ensures.found
