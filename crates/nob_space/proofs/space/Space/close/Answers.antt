use Rattle.std.proofs.Common.{refl}
use Rattle.nob_model_types.specs.declared.answer.Answer.TheVariants as answers
use Rattle.nob_model_types.specs.declared.event.Event.TheVariants as events
use Rattle.nob_model_types.specs.Deeds.{deeds}
use Rattle.nob_model_types.specs.declared.deed.Deed.TheVariants as did
use Rattle.nob_model_types.specs.declared.deed.Cause.TheVariants as causes
use Rattle.nob_space.proofs.Owners.{few_still, owner_after}
use Rattle.nob_space.proofs.space.Space.close.Goals as goal

pub invariant_of-self-2 : goal.invariant_of-self-2
invariant_of-self-2 c = owner_after (events.Close c.args.peer) (answers.Closed c.in_ok-reason.reason) (did.Closing c.args.peer c.in_ok-reason.reason causes.Asked) c.self.invariant.1 (few_still c.in_ok-reason.ensures.here c.self.invariant.0) refl (c.in_ok-reason.ensures.stands c.self.inside.limits (deeds c.self.invariant.1) c.self.invariant.2)
