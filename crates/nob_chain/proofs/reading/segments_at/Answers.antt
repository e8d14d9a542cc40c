use Rattle.std.proofs.Common.{◌≡◌, ◌<◌, ◌++◌, ◌∷◌, [], ℕ, List, length, sym, subst, arith}
use Rattle.nob_chain.specs.declared.segment.Segment.{Segment}
use Rattle.nob_chain.proofs.ReadSegments.{FoundSegments, next_segment, segments_error}
use Rattle.nob_chain.proofs.Memory.{segment_push_memory, segments_memory}
use Rattle.nob_chain.proofs.reading.segments_at.Goals as goal

pub returns-in_err-segment-clause-found : goal.returns-in_err-segment-clause-found
returns-in_err-segment-clause-found c =
    let long : c.len-in-loop-alloc.result ≡ length c.loop-alloc.all.items = let l = c.len-in-loop-alloc.ensures in omega (arith, l) in
    segments_error _ c.args.head.now c.args.text.now c.loop-alloc.all.items c.loop-alloc.left.now c.loop-alloc.last c.len-in-loop-alloc.result c.from_residual.result c.in_err-segment.field-0.0 long c.requires c.loop-alloc.invariant c.from_residual.ensures.1
    c.in_err-segment.ensures.found

pub returns-in_err-segment-clause-memory : goal.returns-in_err-segment-clause-memory
returns-in_err-segment-clause-memory c =
    let long : c.len-in-loop-alloc.result ≡ length c.loop-alloc.all.items = let l = c.len-in-loop-alloc.ensures in omega (arith, l) in
    segments_memory c.args.head.now c.args.text.now c.loop-alloc.all.items c.loop-alloc.left.now c.loop-alloc.last c.len-in-loop-alloc.result c.from_residual.result c.in_err-segment.field-0.0 long c.requires c.loop-alloc.invariant c.from_residual.ensures.1
    c.in_err-segment.ensures.memory

pub returns-in_err-push-clause-memory : goal.returns-in_err-push-clause-memory
returns-in_err-push-clause-memory c =
    let long : c.len-in-loop-alloc.result ≡ length c.loop-alloc.all.items = let l = c.len-in-loop-alloc.ensures in omega (arith, l) in
    let less : length c.loop-alloc.all.items < c.args.head.now.count = let l = c.len.ensures in let t = c.loop-alloc-test.true in omega (arith, l, t) in
    segment_push_memory c.args.head.now c.args.text.now c.loop-alloc.all.items c.loop-alloc.left.now c.in_ok-segment.rest.now c.loop-alloc.last c.len-in-loop-alloc.result c.in_ok-segment.segment c.from_residual-in_err-push.result long less c.requires c.loop-alloc.invariant
    c.in_ok-segment.ensures.found

pub loop-alloc-preserved : goal.loop-alloc-preserved
loop-alloc-preserved c =
    let long : c.len-in-loop-alloc.result ≡ length c.loop-alloc.all.items = let l = c.len-in-loop-alloc.ensures in omega (arith, l) in
    let done = c.loop-alloc.all.items in
    let left = c.loop-alloc.left.now in
    let rest = c.in_ok-segment.rest.now in
    let s = c.in_ok-segment.segment in
    let less : length done < c.args.head.now.count = let l = c.len.ensures in let t = c.loop-alloc-test.true in omega (arith, l, t) in
    subst (λ (ss : List Segment). FoundSegments c.args.head.now c.args.text.now ss rest c.last_stamp-last.result) (sym c.in_ok-push.ensures.items)
    (subst (λ (n : ℕ). FoundSegments c.args.head.now c.args.text.now (done ++ s ∷ []) rest n) (sym c.last_stamp-last.ensures)
    (next_segment c.args.head.now c.args.text.now done left rest c.loop-alloc.last c.len-in-loop-alloc.result s long less c.in_ok-segment.ensures.found c.loop-alloc.invariant))
