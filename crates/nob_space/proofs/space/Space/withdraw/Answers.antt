use Rattle.std.proofs.Common.{refl}
use Rattle.nob_model_types.specs.declared.answer.Answer.TheVariants as answers
use Rattle.nob_model_types.specs.declared.event.Event.TheVariants as events
use Rattle.nob_model_types.specs.Deeds.{deeds}
use Rattle.nob_model_types.specs.declared.deed.Deed.TheVariants as did
use Rattle.nob_space.proofs.Owners.{few_still, owner_after}
use Rattle.nob_space.proofs.space.Space.withdraw.Goals as goal

pub invariant_of-self-2 : goal.invariant_of-self-2
invariant_of-self-2 c = owner_after (events.Withdraw c.args.index) (answers.Withdrawn) (did.Withdraw c.args.index) c.self.invariant.1 (few_still c.in_ok-withdraw.ensures.here c.self.invariant.0) refl (c.in_ok-withdraw.ensures.stands c.self.inside.limits (deeds c.self.invariant.1) c.self.invariant.2)
