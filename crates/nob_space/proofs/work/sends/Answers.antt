use Rattle.std.proofs.Common.{◌≡◌, ℕ, ◌<◌, ◌≤◌, length, refl, subst, ◌∙◌, arith}
use Rattle.std.proofs.lemmas.List.{length-set}
use Rattle.nob_model_history.specs.Histories.{history_of}
use Rattle.nob_model.specs.Next as next
use Rattle.nob_space.proofs.Places.{written_more}
use Rattle.nob_space.proofs.work.sends.Goals as goal

pub loop-place-init : goal.loop-place-init
loop-place-init c = record { each = refl; told = λ limits D stands p low high. absurd (omega (arith, low, high)) }

pub loop-place-preserved : goal.loop-place-preserved
loop-place-preserved c =
    let each : length c.loop-place.all ≡ 32 = c.loop-place.invariant.each in
    let low : c.loop-place.place < 32 = c.loop-place-test.true in
    record {
      each = length-set c.loop-place.all c.loop-place.place c.can_send.result ∙ each;
      told = λ limits D stands. written_more (λ p. next.can_send c.args.parts.now.here.space c.args.parts.now.here.n p limits.window (history_of c.args.parts.now.here.space c.args.parts.now.here.n D)) c.loop-place.place c.loop-place.all c.can_send.result (omega (arith, each, low))
          (subst (λ (k : ℕ). c.can_send.result ≡ next.can_send c.args.parts.now.here.space c.args.parts.now.here.n k limits.window (history_of c.args.parts.now.here.space c.args.parts.now.here.n D)) (c.in-Some.ensures {u = tt}).value (c.can_send.ensures limits D stands))
          (c.loop-place.invariant.told limits D stands);
    }

pub returns : goal.returns
returns c limits D stands p low high =
    let past : 32 ≤ c.loop-place.place = c.loop-place-test.false in
    c.loop-place.invariant.told limits D stands p low (omega (arith, past, high))
