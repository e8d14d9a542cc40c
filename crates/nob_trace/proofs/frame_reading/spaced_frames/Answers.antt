use Rattle.std.proofs.Common.{List, length, sym, subst, ◌∙◌}
use Rattle.std.proofs.lemmas.List.{nil_from_length}
use Rattle.std.proofs.lemmas.Bool.Decides.{Decides-eqb}
use Rattle.nob_frame.specs.declared.frame.Frame.{Frame}
use Rattle.nob_model_text.proofs.Read.{by_error, passed, not_empty}
use Rattle.nob_trace.proofs.Spaced.{FoundSoFar, OnlySoFar, found_next, only_next, only_end, no_space, no_frame}
use Rattle.nob_trace.proofs.frame_reading.spaced_frames.Goals as goal

pub returns-in_err-after_space-clause-only : goal.returns-in_err-after_space-clause-only
returns-in_err-after_space-clause-only c frames framed spelt =
    let r = c.loop-left.invariant.1 frames framed spelt in
    passed _ c.from_residual.result c.in_err-after_space.field-0.0 c.from_residual.ensures.1
    (no_space c.args.version r.0 c.loop-left.left.now c.in_err-after_space.field-0.0 (λ e. not_empty _ c.is_empty.result e c.is_empty.ensures c.loop-left-test.true) r.3 (λ rest is. by_error _ (c.in_err-after_space.ensures.only rest is)))

pub returns-in_err-frame-clause-only : goal.returns-in_err-frame-clause-only
returns-in_err-frame-clause-only c frames framed spelt =
    let r = c.loop-left.invariant.1 frames framed spelt in
    passed _ c.from_residual-in_err-frame.result c.in_err-frame.field-0.0 c.from_residual-in_err-frame.ensures.1
    (no_frame c.args.version r.0 c.loop-left.left.now c.in_ok-after_space.field-0.now c.in_err-frame.field-0.0 c.in_ok-after_space.ensures.found r.2 r.3 (λ f rest fits stops is. by_error _ (c.in_err-frame.ensures.only f rest fits stops is)))

pub loop-left-preserved : goal.loop-left-preserved
loop-left-preserved c =
    let left = c.loop-left.left.now in
    let next = c.in_ok-after_space.field-0.now in
    let after = c.in_ok-frame.rest.now in
    let done = c.loop-left.frames.items in
    let f = c.in_ok-frame.frame in
    subst (λ (fs : List Frame). FoundSoFar c.args.version c.args.text.now fs after × OnlySoFar c.args.version c.args.text.now fs after) (sym c.in_ok-push.ensures.items)
    (found_next c.args.version c.args.text.now left next after done f c.in_ok-after_space.ensures.found c.in_ok-frame.ensures.found c.loop-left.invariant.0, only_next c.args.version c.args.text.now left next after done f c.in_ok-after_space.ensures.found c.in_ok-frame.ensures.only c.loop-left.invariant.1)

pub returns-clause-only : goal.returns-clause-only
returns-clause-only c frames framed spelt =
    let empty = nil_from_length c.loop-left.left.now ((Decides-eqb (length c.loop-left.left.now) 0).0 (sym c.is_empty.ensures ∙ c.loop-left-test.false)) in
    c.from_vec.ensures ∙ only_end c.args.version c.args.text.now c.loop-left.left.now c.loop-left.frames.items empty c.loop-left.invariant.1 frames framed spelt
