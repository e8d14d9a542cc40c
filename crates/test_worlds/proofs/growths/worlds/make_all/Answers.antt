use Rattle.std.proofs.Common.{◌++◌, List, reverse, take, drop, subst, sym, ap, ◌∙◌, append_assoc}
use Rattle.std.proofs.lemmas.List.{reverse-append, take-append-drop}
use Rattle.nob_model_types.specs.declared.entry.WorldStep.{WorldStep}
use Rattle.test_worlds.specs.Makings.{Makes}
use Rattle.test_worlds.proofs.Growing.{makes_more}
use Rattle.test_worlds.proofs.growths.worlds.make_all.Goals as goal

pub loop-preserved : goal.loop-preserved
loop-preserved c =
    let before = c.loop.invariant in
    let done = before.2 in
    let left = c.loop.left.now in
    let count = c.make_some-count.result in
    let made = makes_more (reverse done) (reverse (take count left)) c.args.world.now c.loop.world c.make_some-count.new.world before.0 before.4 c.make_some-count.ensures.made in (
      c.make_some-count.ensures.n ∙ before.0,
      c.make_some-count.ensures.limits ∙ before.1,
      done ++ take count left,
      before.3 ∙ ap (λ (xs : List WorldStep). done ++ xs) (sym (take-append-drop count left)) ∙ sym (append_assoc done (take count left) (drop count left)) ∙ ap (λ (xs : List WorldStep). (done ++ take count left) ++ xs) (sym c.split_at.ensures.back),
      subst (λ (steps : List WorldStep). Makes steps c.args.world.now c.make_some-count.new.world) (sym (reverse-append done (take count left))) made,
    )
