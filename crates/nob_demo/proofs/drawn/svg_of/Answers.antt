use Rattle.std.proofs.Common.{◌≡◌, ℕ, List, IfOk, subst, ◌∙◌}
use Rattle.nob_demo.proofs.WrittenDrawings.{svg_is}
use Rattle.nob_demo.proofs.drawn.svg_of.Goals as goal

pub returns : goal.returns
returns c =
    let plan = c.in_ok-plan.ensures in
    subst (λ (bytes : List ℕ). IfOk c.svg_text.result (λ text. text.items ≡ bytes))
    (svg_is c.args.n c.args.part c.args.accepted c.args.fault c.args.journal.now c.page_of-page.result _ _ _ _ _ _ _ _ _ plan.places plan.lives plan.bars plan.arrows plan.lost plan.strays (rw c.as_slice.ensures.value at c.page_of-page.ensures) c.width_of.ensures c.height_of.ensures (c.as_slice-2.ensures.value ∙ c.in_ok-shapes.ensures))
    c.svg_text.ensures
