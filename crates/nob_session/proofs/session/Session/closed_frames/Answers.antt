use Rattle.std.proofs.Common.{◌+◌, ◌^◌, ◌<◌, ◌≤◌, arith, subst, sym}
use Rattle.std.specs.List.{AllByRecursion}
use Rattle.std.proofs.lemmas.Result.{IfOk-weaker}
use Rattle.nob_frame.specs.declared.version.Version.TheVariants.{Two}
use Rattle.nob_frame.specs.Spelling.{Fits}
use Rattle.nob_session.specs.Stands.{Roomy}
use Rattle.nob_session.proofs.Spelt.{IsNumber, close_fits}
use Rattle.nob_session.proofs.session.Session.closed_frames.Goals as goal

pub returns-clause-spelt : goal.returns-clause-spelt
returns-clause-spelt c pair =
    let e = c.args.self.now.end in
    let sound = c.self.invariant in
    let numbered : IsNumber e.number = (subst (λ (r : Roomy). 1 ≤ r.end.number) c.self.view_is sound.number_positive, subst (λ (r : Roomy). r.end.number < 2 ^ 32) c.self.view_is sound.number_limit) in
    IfOk-weaker c.lone_frame.result _ _
    (λ v h. subst (AllByRecursion (Fits Two)) (sym h)
    (close_fits e.me e.peer e.number (c.self.inside.accepted + 1) c.number.result c.number.ensures.in_range.0 c.number.ensures.in_range.1 pair.0 pair.1 pair.2 numbered (omega arith) (omega (arith, sound.accepted_limit)), tt))
    c.lone_frame.ensures.frame
