use Rattle.nob_model_types.specs.declared.event.Event.TheVariants as events
use Rattle.nob_model_types.specs.Deeds.{deeds}
use Rattle.nob_space_state.specs.Closing.{tick_answer, tick_deed}
use Rattle.nob_space.proofs.Owners.{few_still, owner_after, tick_did}
use Rattle.nob_space.proofs.space.Space.tick.Goals as goal

pub invariant_of-self-2 : goal.invariant_of-self-2
invariant_of-self-2 c = owner_after (events.Tick c.args.peer) (tick_answer c.in_ok-reason.reason) (tick_deed c.args.peer c.in_ok-reason.reason) c.self.invariant.1 (few_still c.in_ok-reason.ensures.here c.self.invariant.0) (tick_did c.args.peer c.in_ok-reason.reason) (c.in_ok-reason.ensures.stands c.self.inside.limits (deeds c.self.invariant.1) c.self.invariant.2)
