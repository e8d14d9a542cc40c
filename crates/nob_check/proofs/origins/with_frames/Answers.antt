use Rattle.std.proofs.Common.{◌≡◌, ◌++◌, ◌∷◌, [], List, Some, slice_get, take, sym, ap, subst, ◌∙◌, append_assoc, arith}
use Rattle.nob_frame.specs.declared.frame.Frame.{Frame}
use Rattle.nob_check.specs.Marks.{AreOf}
use Rattle.nob_model_traces.proofs.Entering.{read, take_one, whole}
use Rattle.nob_check.proofs.origins.with_frames.Goals as goal

pub loop-frame-preserved : goal.loop-frame-preserved
loop-frame-preserved c = λ before are.
    let f = c.frame-item.result in
    let all = c.args.frames.now in
    let i = c.loop-frame.frame-index in
    let there : slice_get all i ≡ Some f = read all i f c.loop-frame-test.true c.frame-item.is in
    subst (λ (fs : List Frame). AreOf fs c.in_ok-set.set) (append_assoc before (take i all) (f ∷ []) ∙ ap (λ (fs : List Frame). before ++ fs) (sym (take_one all i f there)))
    (c.in_ok-set.ensures (before ++ take i all) (c.loop-frame.invariant before are))

pub returns : goal.returns
returns c = λ before are.
    subst (λ (fs : List Frame). AreOf (before ++ fs) c.loop-frame.set) (whole c.args.frames.now c.loop-frame.frame-index (omega (arith, c.loop-frame-test.false, c.loop-frame.auto.frame-index-end)))
    (c.loop-frame.invariant before are)
