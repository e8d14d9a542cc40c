use Rattle.std.proofs.Common.{refl}
use Rattle.nob_model_types.specs.declared.answer.Answer.TheVariants as answers
use Rattle.nob_model_types.specs.declared.event.Event.TheVariants as events
use Rattle.nob_model_types.specs.Deeds.{deeds}
use Rattle.nob_model_types.specs.declared.deed.Deed.TheVariants as did
use Rattle.nob_space.proofs.Owners.{few_still, owner_after}
use Rattle.nob_space.proofs.space.Space.open.Goals as goal

pub invariant_of-self-2 : goal.invariant_of-self-2
invariant_of-self-2 c = owner_after (events.Open c.args.peer) (answers.Opened c.in_ok-number.number) (did.Open c.args.peer c.in_ok-number.number) c.self.invariant.1 (few_still c.in_ok-number.ensures.here c.self.invariant.0) refl (c.in_ok-number.ensures.stands c.self.inside.limits (deeds c.self.invariant.1) c.self.invariant.2)
