use Rattle.std.proofs.Common.{◌≡◌, ℕ, ◌+◌, ◌<◌, ◌≤◌, length, refl, subst, ◌∙◌, arith}
use Rattle.std.proofs.lemmas.List.{length-set}
use Rattle.nob_model.specs.Next.{can_send}
use Rattle.nob_space.proofs.Places.{written_more}
use Rattle.test_worlds.proofs.next.work.sends_of.Goals as goal

pub loop-place-init : goal.loop-place-init
loop-place-init c = (refl, λ p low high. absurd (omega (arith, low, high)))

pub loop-place-preserved : goal.loop-place-preserved
loop-place-preserved c =
    let each : length c.loop-place.all ≡ 32 = c.loop-place.invariant.0 in
    let low : c.loop-place.place < 32 = c.loop-place-test.true in
    let told = c.in_ok-all.field-0 in
    let is : told ≡ can_send c.args.here.now.space c.args.here.now.n (c.loop-place.place + 1) c.args.window c.args.history.now =
    subst (λ (k : ℕ). told ≡ can_send c.args.here.now.space c.args.here.now.n k c.args.window c.args.history.now) (c.in-Some.ensures {u = tt}).value (c.in_ok-all.ensures {u = tt}) in (
      length-set c.loop-place.all c.loop-place.place told ∙ each,
      written_more (λ p. can_send c.args.here.now.space c.args.here.now.n p c.args.window c.args.history.now) c.loop-place.place c.loop-place.all told (omega (arith, each, low)) is c.loop-place.invariant.1,
    )

pub returns : goal.returns
returns c p low high =
    let past : 32 ≤ c.loop-place.place = c.loop-place-test.false in
    c.loop-place.invariant.1 p low (omega (arith, past, high))
