use Rattle.std.proofs.Common.{◌≡◌, ◌+◌, ◌<◌, ◌≤◌, ℕ, List, length, get_or, Some, slice_get, sym, ap, subst, ◌∙◌, arith}
use Rattle.nob_trace.specs.Stamps.{last_stamp}
use Rattle.nob_model_traces.proofs.Entering.{read}
use Rattle.nob_chain.specs.declared.segment.Segment.{Segment}
use Rattle.nob_chain.specs.declared.chain.ChainParts.{ChainParts}
use Rattle.nob_chain_check.proofs.Passing.{count_of, count_low, count_more}
use Rattle.nob_demo.specs.Judging.{count_within}
use Rattle.nob_demo.proofs.Judged.{counted_all}
use Rattle.nob_demo.proofs.judging.count_within.Goals as goal

pub overflow_add-passed : goal.overflow_add-passed
overflow_add-passed c =
    let chain = c.args.chain.now in
    let i = c.loop-place.place in
    let x = c.segment-item.result in
    let are : c.as_slice-segment-items.result.now ≡ chain.segments = c.as_slice-segment-items.ensures ∙ ap (λ (p : ChainParts). p.segments) c.parts.ensures in
    let there : slice_get chain.segments i ≡ Some x = read chain.segments i x (subst (λ (xs : List Segment). i < length xs) are c.loop-place-test.true) (subst (λ (xs : List Segment). x ≡ get_or xs i x) are c.segment-item.is) in
    let low : count_of chain.segments i + length x.entries ≤ last_stamp 0 x.entries = count_low chain i x c.kept.ensures there in
    let stamp : c.last_stamp.result ≡ last_stamp 0 x.entries = c.last_stamp.ensures in
    let fits = c.last_stamp.type_inv in
    let passed : c.loop-place.passed ≡ count_of chain.segments i = c.loop-place.invariant.0 in
    let long : c.len-passed.result ≡ length x.entries = c.len-passed.ensures in
    omega (arith, low, stamp, fits, passed, long)

pub loop-place-preserved : goal.loop-place-preserved
loop-place-preserved c =
    let chain = c.args.chain.now in
    let i = c.loop-place.place in
    let x = c.segment-item.result in
    let are : c.as_slice-segment-items.result.now ≡ chain.segments = c.as_slice-segment-items.ensures ∙ ap (λ (p : ChainParts). p.segments) c.parts.ensures in
    let there : slice_get chain.segments i ≡ Some x = read chain.segments i x (subst (λ (xs : List Segment). i < length xs) are c.loop-place-test.true) (subst (λ (xs : List Segment). x ≡ get_or xs i x) are c.segment-item.is) in
    let passed : c.loop-place.passed ≡ count_of chain.segments i = c.loop-place.invariant.0 in
    let long : c.len-passed.result ≡ length x.entries = c.len-passed.ensures in
    let more : count_of chain.segments i + length x.entries ≡ count_within (i + 1) chain = count_more chain.segments i x there in
    let least = c.loop-place.invariant.1 in
    (omega (arith, passed, long, more), omega (arith, least))

pub returns-then-place-number : goal.returns-then-place-number
returns-then-place-number c =
    let least = c.loop-place.invariant.1 in
    let past = c.if-place-number.true in
    let all : c.loop-place.place ≡ c.args.number = omega (arith, least, past) in
    c.loop-place.invariant.0 ∙ ap (λ (k : ℕ). count_within k c.args.chain.now) all

pub returns : goal.returns
returns c =
    let chain = c.args.chain.now in
    let i = c.loop-place.place in
    let are : c.as_slice-segment-items.result.now ≡ chain.segments = c.as_slice-segment-items.ensures ∙ ap (λ (p : ChainParts). p.segments) c.parts.ensures in
    let all : length c.as_slice-segment-items.result.now ≤ i = c.loop-place-test.false in
    c.loop-place.invariant.0 ∙ counted_all chain c.args.number i c.loop-place.invariant.1 (subst (λ (xs : List Segment). length xs ≤ i) are all)
