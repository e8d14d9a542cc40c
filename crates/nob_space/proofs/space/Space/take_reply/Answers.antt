use Rattle.nob_model_types.specs.declared.event.Event.TheVariants as events
use Rattle.nob_model_types.specs.Deeds.{deeds}
use Rattle.nob_space_state.specs.Taking.{answer_of}
use Rattle.nob_space_state.specs.Taking as taking
use Rattle.nob_space.proofs.Owners.{few_still, owner_after, take_did}
use Rattle.nob_space.proofs.space.Space.take_reply.Goals as goal

pub invariant_of-self-2 : goal.invariant_of-self-2
invariant_of-self-2 c = owner_after (events.TakeReply c.args.call) (answer_of c.in_ok-brought.brought) (taking.deed_of c.args.call c.in_ok-brought.brought) c.self.invariant.1 (few_still c.in_ok-brought.ensures.here c.self.invariant.0) (take_did c.args.call c.in_ok-brought.brought) (c.in_ok-brought.ensures.stands c.self.inside.limits (deeds c.self.invariant.1) c.self.invariant.2)
