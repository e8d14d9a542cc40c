use Rattle.std.proofs.Common.{rules, List, [], ◌∷◌, ◌++◌, ap, ◌∙◌}
use Rattle.nob_node_site.specs.Assigning.{with_return}
use Rattle.nob_node.proofs.leftovers.take_returned.Goals as goal

-- one object more was got, and came back
pub loop-preserved : goal.loop-preserved
loop-preserved g c =
    let so_far = c.loop.invariant.1 in let back = c.in-Some-try_get_as.back in
    (search rules, (back ∷ so_far.0, c.in-Some-try_get_as.ensures.answer ∙ ap (λ got. got ++ back ∷ []) so_far.1, c.put_down.ensures ∙ ap (with_return back) so_far.2))
