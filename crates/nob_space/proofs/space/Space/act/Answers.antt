use Rattle.nob_model_types.specs.declared.event.Event.TheVariants as events
use Rattle.nob_model_types.specs.Deeds.{deeds}
use Rattle.nob_space_items.specs.Acts.{act_answer, act_deed}
use Rattle.nob_space.proofs.Acted.{acted_deed}
use Rattle.nob_space.proofs.Owners.{few_still, owner_after}
use Rattle.nob_space.proofs.space.Space.act.Goals as goal

pub invariant_of-self-2 : goal.invariant_of-self-2
invariant_of-self-2 c = owner_after (events.Act c.args.peer) (act_answer c.in_ok-done.done) (act_deed c.args.peer c.in_ok-done.done) c.self.invariant.1 (few_still c.in_ok-done.ensures.here c.self.invariant.0) (acted_deed c.args.peer c.in_ok-done.done) (c.in_ok-done.ensures.stands c.self.inside.limits (deeds c.self.invariant.1) c.self.invariant.2)
