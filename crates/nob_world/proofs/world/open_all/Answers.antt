use Rattle.std.proofs.Common.{◌≡◌, ◌≤◌, ◌+◌, ◌∷◌, [], List, ℕ, length, Some, slice_get, rules, sym, ap, subst, ◌∙◌, arith}
use Rattle.std.proofs.lemmas.List.{length-append}
use Rattle.nob_space.specs.Spaces.{Owner}
use Rattle.nob_world.specs.Worlds.{IsSpaceOf}
use Rattle.nob_world.proofs.Worlds.{placed_push}
use Rattle.nob_world.proofs.world.open_all.Goals as goal

pub loop-p-preserved : goal.loop-p-preserved
loop-p-preserved c =
    let before = c.loop-p.spaces.items in
    let loop_test : c.loop-p.p ≤ c.args.n = search rules in
    let items = (c.in-Ok-push.ensures {u = tt}).items in
    let told = c.in-Ok.ensures {u = tt} in
    let last : IsSpaceOf c.args.n c.args.limits [] (length before + 1) c.in-Ok.space = record {
      id = told.id ∙ (c.in-Some.ensures {u = tt}).value ∙ sym c.loop-p.invariant.count;
      count = told.n;
      same_limits = told.limits;
      stands = told.stands;
    } in
    record {
      count = ap (λ (xs : List Owner). length xs + 1) items ∙ ap (λ k. k + 1) (length-append before (c.in-Ok.space ∷ []) ∙ c.loop-p.invariant.count);
      few = omega (arith, loop_test, c.loop-p.auto.p-fits);
      stand = subst (λ (xs : List Owner). (place : ℕ) (space : Owner) → slice_get xs place ≡ Some space → IsSpaceOf c.args.n c.args.limits [] (place + 1) space) (sym items)
          (placed_push (λ place space. IsSpaceOf c.args.n c.args.limits [] (place + 1) space) before c.in-Ok.space c.loop-p.invariant.stand last);
    }
