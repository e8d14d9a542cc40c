use Rattle.std.proofs.Common.{List, reverse, subst}
use Rattle.nob_model_types.specs.declared.entry.WorldStep.{WorldStep}
use Rattle.test_worlds.specs.Makings.{Makes}
use Rattle.test_worlds.proofs.Growing.{entries_came}
use Rattle.test_worlds.proofs.growths.worlds.entries_in.Goals as goal

pub returns-clause-made : goal.returns-clause-made
returns-clause-made c =
    let old = c.args.world.now in
    let new = c.make_steps.new.world in
    let made = subst (λ (steps : List WorldStep). Makes (reverse steps) old new) c.as_slice.ensures.value c.in_ok-make_steps.ensures.made in
    entries_came c.entries_made.result old new (reverse c.args.script.now.steps.items) c.entries_made.ensures.entries made
