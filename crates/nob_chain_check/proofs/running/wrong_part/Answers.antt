use Rattle.std.proofs.Common.{◌≡◌, ◌+◌, ◌<◌, ◌≤◌, ◌++◌, ℕ, List, length, get_or, drop, Option, Some, None, slice_get, MatchOption, sym, ap, subst, ◌∙◌, arith}
use Prim.Native.Nat.{suc}
use Rattle.std.specs.Prelude.{IfSome}
use Rattle.nob_trace.specs.declared.stamped.Stamped.{Stamped}
use Rattle.nob_trace.specs.Stamps.{last_stamp}
use Rattle.nob_model_traces.specs.Traces.{IsFirstWrong}
use Rattle.nob_model_traces.proofs.Entering.{read}
use Rattle.nob_chain.specs.declared.segment.Segment.{Segment}
use Rattle.nob_chain.specs.declared.chain.ChainParts.{ChainParts}
use Rattle.nob_chain.specs.Chains.{entries_of, joined}
use Rattle.nob_chain_check.specs.Running.{HasAnswered}
use Rattle.nob_chain_check.proofs.Passing.{count_of, count_low, next_entries, next_peers, passed_next}
use Rattle.nob_chain_check.proofs.running.wrong_part.Goals as goal

pub overflow_add-result : goal.overflow_add-result
overflow_add-result c =
    let chain = c.args.chain.now in
    let i = c.loop-place.place in
    let x = c.segment-item.result in
    let has = c.loop-place.invariant in
    let are : c.as_slice-segment-items.result.now ≡ chain.segments = c.as_slice-segment-items.ensures ∙ ap (λ (p : ChainParts). p.segments) c.parts.ensures in
    let there : slice_get chain.segments i ≡ Some x = read chain.segments i x (subst (λ (xs : List Segment). i < length xs) are c.loop-place-test.true) (subst (λ (xs : List Segment). x ≡ get_or xs i x) are c.segment-item.is) in
    let low : count_of chain.segments i + length x.entries ≤ last_stamp 0 x.entries = count_low chain i x c.kept.ensures there in
    let stamp : c.last_stamp-stamp.result ≡ last_stamp 0 x.entries = c.last_stamp-stamp.ensures in
    let fits = c.last_stamp-stamp.type_inv in
    let passed : c.loop-place.passed ≡ count_of chain.segments i = has.passed_is in
    let most : c.in-Some.at ≤ length x.entries = subst (λ (es : List Stamped). c.in-Some.at ≤ length es) c.as_slice.ensures (subst (λ (o : Option ℕ). IfSome o (λ place. place ≤ length c.as_slice.result.now)) c.in-Some.is c.in_ok-at.ensures.bound) in
    omega (arith, low, stamp, fits, passed, most)

pub returns-in-Some : goal.returns-in-Some
returns-in-Some c =
    let chain = c.args.chain.now in
    let i = c.loop-place.place in
    let x = c.segment-item.result in
    let has = c.loop-place.invariant in
    let are : c.as_slice-segment-items.result.now ≡ chain.segments = c.as_slice-segment-items.ensures ∙ ap (λ (p : ChainParts). p.segments) c.parts.ensures in
    let there : slice_get chain.segments i ≡ Some x = read chain.segments i x (subst (λ (xs : List Segment). i < length xs) are c.loop-place-test.true) (subst (λ (xs : List Segment). x ≡ get_or xs i x) are c.segment-item.is) in
    let behind : List Stamped = entries_of (drop (suc i) chain.segments) in
    let said = c.in_ok-at.ensures.answered (joined chain) (count_of chain.segments i) behind has.answered (next_entries chain.segments i x there ∙ ap (λ (es : List Stamped). es ++ behind) (sym c.as_slice.ensures)) in
    let wrong : IsFirstWrong (joined chain) (count_of chain.segments i + c.in-Some.at) =
    subst (λ (o : Option ℕ). MatchOption o (HasAnswered (joined chain) (count_of chain.segments i + length c.as_slice.result.now) c.first_wrong_entry.new.space) (λ place. IsFirstWrong (joined chain) (count_of chain.segments i + place))) c.in-Some.is said in
    subst (λ (k : ℕ). IsFirstWrong (joined chain) (k + c.in-Some.at)) (sym has.passed_is) wrong

pub overflow_add-passed : goal.overflow_add-passed
overflow_add-passed c =
    let chain = c.args.chain.now in
    let i = c.loop-place.place in
    let x = c.segment-item.result in
    let has = c.loop-place.invariant in
    let are : c.as_slice-segment-items.result.now ≡ chain.segments = c.as_slice-segment-items.ensures ∙ ap (λ (p : ChainParts). p.segments) c.parts.ensures in
    let there : slice_get chain.segments i ≡ Some x = read chain.segments i x (subst (λ (xs : List Segment). i < length xs) are c.loop-place-test.true) (subst (λ (xs : List Segment). x ≡ get_or xs i x) are c.segment-item.is) in
    let low : count_of chain.segments i + length x.entries ≤ last_stamp 0 x.entries = count_low chain i x c.kept.ensures there in
    let stamp : c.last_stamp-stamp.result ≡ last_stamp 0 x.entries = c.last_stamp-stamp.ensures in
    let fits = c.last_stamp-stamp.type_inv in
    let passed : c.loop-place.passed ≡ count_of chain.segments i = has.passed_is in
    let long : c.len-passed.result ≡ length x.entries = c.len-passed.ensures in
    omega (arith, low, stamp, fits, passed, long)

pub wrong_after-wrong-requires : goal.wrong_after-wrong-requires
wrong_after-wrong-requires c =
    let chain = c.args.chain.now in
    let i = c.loop-place.place in
    let x = c.segment-item.result in
    let has = c.loop-place.invariant in
    let are : c.as_slice-segment-items.result.now ≡ chain.segments = c.as_slice-segment-items.ensures ∙ ap (λ (p : ChainParts). p.segments) c.parts.ensures in
    let there : slice_get chain.segments i ≡ Some x = read chain.segments i x (subst (λ (xs : List Segment). i < length xs) are c.loop-place-test.true) (subst (λ (xs : List Segment). x ≡ get_or xs i x) are c.segment-item.is) in
    let behind : List Stamped = entries_of (drop (suc i) chain.segments) in
    let said = c.in_ok-at.ensures.answered (joined chain) (count_of chain.segments i) behind has.answered (next_entries chain.segments i x there ∙ ap (λ (es : List Stamped). es ++ behind) (sym c.as_slice.ensures)) in
    let all : HasAnswered (joined chain) (count_of chain.segments i + length c.as_slice.result.now) c.first_wrong_entry.new.space =
    subst (λ (o : Option ℕ). MatchOption o (HasAnswered (joined chain) (count_of chain.segments i + length c.as_slice.result.now) c.first_wrong_entry.new.space) (λ place. IsFirstWrong (joined chain) (count_of chain.segments i + place))) c.in_default.is said in
    let now : HasAnswered (joined chain) (count_of chain.segments i + length x.entries) c.first_wrong_entry.new.space = subst (λ (es : List Stamped). HasAnswered (joined chain) (count_of chain.segments i + length es) c.first_wrong_entry.new.space) c.as_slice.ensures all in
    next_peers chain i (count_of chain.segments i + length x.entries) x c.first_wrong_entry.new.space c.kept.ensures there now

pub loop-place-preserved : goal.loop-place-preserved
loop-place-preserved c =
    let chain = c.args.chain.now in
    let i = c.loop-place.place in
    let x = c.segment-item.result in
    let has = c.loop-place.invariant in
    let are : c.as_slice-segment-items.result.now ≡ chain.segments = c.as_slice-segment-items.ensures ∙ ap (λ (p : ChainParts). p.segments) c.parts.ensures in
    let there : slice_get chain.segments i ≡ Some x = read chain.segments i x (subst (λ (xs : List Segment). i < length xs) are c.loop-place-test.true) (subst (λ (xs : List Segment). x ≡ get_or xs i x) are c.segment-item.is) in
    let behind : List Stamped = entries_of (drop (suc i) chain.segments) in
    let said = c.in_ok-at.ensures.answered (joined chain) (count_of chain.segments i) behind has.answered (next_entries chain.segments i x there ∙ ap (λ (es : List Stamped). es ++ behind) (sym c.as_slice.ensures)) in
    let all : HasAnswered (joined chain) (count_of chain.segments i + length c.as_slice.result.now) c.first_wrong_entry.new.space =
    subst (λ (o : Option ℕ). MatchOption o (HasAnswered (joined chain) (count_of chain.segments i + length c.as_slice.result.now) c.first_wrong_entry.new.space) (λ place. IsFirstWrong (joined chain) (count_of chain.segments i + place))) c.in_default.is said in
    let now : HasAnswered (joined chain) (count_of chain.segments i + length x.entries) c.first_wrong_entry.new.space = subst (λ (es : List Stamped). HasAnswered (joined chain) (count_of chain.segments i + length es) c.first_wrong_entry.new.space) c.as_slice.ensures all in
    passed_next chain i c.loop-place.passed (c.loop-place.passed + c.len-passed.result) c.last_stamp-stamp.result x c.loop-place.wrong c.wrong_after-wrong.result c.loop-place.space c.first_wrong_entry.new.space c.kept.ensures there has c.last_stamp-stamp.ensures (ap (λ (k : ℕ). c.loop-place.passed + k) c.len-passed.ensures) now c.wrong_after-wrong.ensures
