use Rattle.nob_model_types.specs.declared.event.Event.TheVariants as events
use Rattle.nob_model_types.specs.Deeds.{deeds}
use Rattle.nob_space_state.specs.Sending.{finish_answer, finish_deed}
use Rattle.nob_space.proofs.Owners.{few_still, owner_after, finish_did}
use Rattle.nob_space.proofs.space.Space.finish.Goals as goal

pub invariant_of-self-2 : goal.invariant_of-self-2
invariant_of-self-2 c = owner_after (events.Finish c.args.job c.args.outcome.now) (finish_answer c.in_ok-fate.fate) (finish_deed c.args.job c.args.outcome.now c.in_ok-fate.fate) c.self.invariant.1 (few_still c.in_ok-fate.ensures.here c.self.invariant.0) (finish_did c.args.job c.args.outcome.now c.in_ok-fate.fate) (c.in_ok-fate.ensures.stands c.self.inside.limits (deeds c.self.invariant.1) c.self.invariant.2)
