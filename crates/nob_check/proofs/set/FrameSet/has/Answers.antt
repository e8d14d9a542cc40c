use Rattle.std.proofs.Common.{◌∙◌, subst, sym}
use Rattle.nob_check.specs.Marks.{AreOf}
use Rattle.nob_check.proofs.Signs.{has_is}
use Rattle.nob_check.proofs.set.FrameSet.has.Goals as goal

pub returns : goal.returns
returns c = λ frames are.
    let is = has_is frames c.args.frame.now c.in_ok-mark.mark c.self.inside.marks.keys (subst (AreOf frames) (sym c.self.view_is) are) c.in_ok-mark.ensures in
    (λ h. is.0 (sym c.contains.ensures ∙ h), λ there. c.contains.ensures ∙ is.1 there)
