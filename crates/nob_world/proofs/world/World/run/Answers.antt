use Rattle.std.proofs.Common.{◌≡◌, List, Option, Some, Result, Err, OnErr, length, slice_get, refl, sym, ap, subst, ◌∙◌}
use Rattle.std.proofs.lemmas.Option.{slice_get_read}
use Rattle.nob_frame.specs.declared.frame.Frame.{Frame}
use Rattle.nob_model_types.specs.declared.answer.Answer.{Answer}
use Rattle.nob_model_types.specs.declared.refusal.Refusal.{Refusal}
use Rattle.nob_world.specs.Worlds.{World, IsSafe, journal, outcome, world_of, step_fault, why_stopped}
use Rattle.nob_world.specs.declared.error.WorldError.{WorldError}
use Rattle.nob_world.proofs.Safe.{safe}
use Rattle.nob_world.proofs.Worlds.{why_is}
use Rattle.nob_world.proofs.world.World.run.Goals as goal

pub loop-place-init : goal.loop-place-init
loop-place-init c = record {
  from = λ before from. from;
  safe = subst (λ (w : World). IsSafe w.n (journal w)) c.self.view_is (safe (world_of c.self.inside.n c.self.inside.limits c.self.inside.spaces.items c.self.inside.entries.items c.self.inside.frames.items) c.self.invariant);
  n = refl;
  limits = refl;
}

pub returns-in-Err-clause-stopped : goal.returns-in-Err-clause-stopped
returns-in-Err-clause-stopped c =
    let told : outcome c.step.result ≡ Err c.in-Err.error = sym c.outcome.ensures ∙ c.in-Err.is in
    let kept : c.step.new.self.frames ≡ c.loop-place.self.frames = subst (λ (r : Result (Result Answer Refusal) WorldError). OnErr r (c.step.new.self.frames ≡ c.loop-place.self.frames)) told c.step.ensures.err_frames in
    let there : slice_get c.args.steps.now c.loop-place.place ≡ Some c.index-steps-place.result = slice_get_read c.args.steps.now (length c.args.steps.now) c.loop-place.place c.index-steps-place.result refl c.loop-place-test.true c.index-steps-place.is in
    let faults : step_fault c.step.new.self.n c.step.new.self.frames c.index-steps-place.result ≡ step_fault c.loop-place.self.n c.loop-place.self.frames c.index-steps-place.result =
    ap (λ n. step_fault n c.step.new.self.frames c.index-steps-place.result) c.step.ensures.n ∙ ap (λ (frames : List Frame). step_fault c.loop-place.self.n frames c.index-steps-place.result) kept in (
      c.index-steps-place.result,
      there,
      subst (λ (wrong : Option WorldError). c.in-Err.error ≡ why_stopped wrong) (sym faults) (why_is (step_fault c.loop-place.self.n c.loop-place.self.frames c.index-steps-place.result) c.in-Err.error c.step.result c.step.ensures.fault told c.step.ensures.only),
    )
