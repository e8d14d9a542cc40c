use Rattle.nob_model_types.specs.declared.event.Event.TheVariants as events
use Rattle.nob_model_types.specs.Deeds.{deeds}
use Rattle.nob_space_state.specs.Closing.{arrive_answer, arrive_deed}
use Rattle.nob_space.proofs.Owners.{few_still, owner_after, arrive_did}
use Rattle.nob_space.proofs.space.Space.arrive.Goals as goal

pub invariant_of-self-2 : goal.invariant_of-self-2
invariant_of-self-2 c = owner_after (events.Arrive c.args.frame.now) (arrive_answer c.in_ok-arrived.arrived) (arrive_deed c.args.frame.now c.in_ok-arrived.arrived) c.self.invariant.1 (few_still c.in_ok-arrived.ensures.here c.self.invariant.0) (arrive_did c.args.frame.now c.in_ok-arrived.arrived) (c.in_ok-arrived.ensures.stands c.self.inside.limits (deeds c.self.invariant.1) c.self.invariant.2)
