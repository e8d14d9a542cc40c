use Rattle.std.proofs.Common.{rules, List, [], ◌∷◌, ◌++◌, ap, ◌∙◌}
use Rattle.nob_node_site.specs.Assigning.{with_return}
use Rattle.nob_node.specs.Leaving.{back_of}
use Rattle.nob_node.proofs.leftovers.take_unserved.Goals as goal

-- one errand more was got, and its object came back
pub loop-preserved : goal.loop-preserved
loop-preserved g c =
    let so_far = c.loop.invariant.1 in let errand = c.in-Some-try_get_as.errand in
    (search rules, (errand ∷ so_far.0, c.in-Some-try_get_as.ensures.answer ∙ ap (λ got. got ++ errand ∷ []) so_far.1, c.put_back.ensures ∙ ap (with_return (back_of errand)) so_far.2))
