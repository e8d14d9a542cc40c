use Rattle.std.proofs.Common.{List, reverse, sym, subst, ◌∙◌}
use Rattle.std.specs.List.{Contains}
use Rattle.nob_frame.specs.declared.frame.Frame.{Frame}
use Rattle.nob_model_types.specs.declared.event.Event.{Event}
use Rattle.nob_model_types.specs.declared.event.Event.TheVariants as events
use Rattle.nob_model_journal.specs.Runs.{ArrivesGiven}
use Rattle.nob_world.proofs.Worlds.{no_arrival, was_given}
use Rattle.nob_world.proofs.making.take_step.Goals as goal

pub returns-in-Ok-clause-world : goal.returns-in-Ok-clause-world
returns-in-Ok-clause-world c limits world =
    let J = reverse c.args.entries.now.items in
    c.make.ensures.world c.args.n limits world (subst (λ (event : Event). ArrivesGiven event J) (sym (c.in-Ok.ensures {u = tt})) (no_arrival c.in-Do.event J (sym c.is_arrival.ensures ∙ c.if-is_arrival.false)))

pub returns-in-Ok-carry-clause-world : goal.returns-in-Ok-carry-clause-world
returns-in-Ok-carry-clause-world c limits world =
    let J = reverse c.args.entries.now.items in
    let there = was_given c.in-Deliver.number c.as_slice.result.now c.in-Some.frame.now (c.in-Some.ensures {u = tt}) in
    let given_is = c.as_slice.ensures.value ∙ world.frames in
    c.make-in-Deliver.ensures.world c.args.n limits world (subst (λ (frame : Frame). ArrivesGiven (events.Arrive frame) J) (sym (c.in-Ok-carry.ensures {u = tt})) (subst (λ (frames : List Frame). Contains frames c.in-Some.frame.now) given_is there))
