use Rattle.std.proofs.Common.{subst, sym}
use Rattle.std.specs.Prelude.{List, map, ◌++◌, ◌∷◌, []}
use Rattle.nob_check.specs.declared.mark.Mark.{Mark}
use Rattle.nob_check.specs.Marks.{sign_in, AreOf}
use Rattle.nob_check.proofs.Signs.{more_are}
use Rattle.nob_check.proofs.set.FrameSet.with.Goals as goal

pub returns-in-Ok : goal.returns-in-Ok
returns-in-Ok c = λ frames are.
    subst (λ (marks : List Mark). AreOf (frames ++ c.args.frame.now ∷ []) (map sign_in marks)) (sym c.in-Ok.ensures.keys)
    (more_are frames c.args.frame.now c.in_ok-mark.mark c.self.inside.marks.keys (subst (AreOf frames) (sym c.self.view_is) are) c.in_ok-mark.ensures)
