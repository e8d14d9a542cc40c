use Rattle.std.proofs.Common.{◌∷◌, ap, ◌∙◌}
use Rattle.nob_dispatch.specs.Assigning.{with_back}
use Rattle.nob_dispatch.proofs.desk.Desk.take_back.Goals as goal

pub loop-preserved : goal.loop-preserved
loop-preserved g c =
    let back = c.take_one_back.ensures.back c.if-not-take_one_back.false in
    let so_far = c.loop.invariant.0 in
    let same = c.take_one_back.ensures.same in
    let as_before = c.loop.invariant.1 in
    ((back.0 ∷ so_far.0, back.1 ∙ ap (with_back back.0) so_far.1), (same.0 ∙ as_before.0, same.1 ∙ as_before.1, same.2 ∙ as_before.2, same.3 ∙ as_before.3, same.4 ∙ as_before.4, (same.5.0 ∙ as_before.5.0, same.5.1 ∙ as_before.5.1, same.5.2 ∙ as_before.5.2, same.5.3 ∙ as_before.5.3)))
