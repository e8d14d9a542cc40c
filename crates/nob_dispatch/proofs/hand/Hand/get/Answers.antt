use Rattle.nob_dispatch_lanes.specs.Ends.{stake_of}
use Rattle.nob_dispatch.specs.Serving.{given, taken}
use Rattle.nob_dispatch.specs.Sides.{serving_of}
use Rattle.nob_dispatch.proofs.Follows.{gets_tied}
use Rattle.nob_dispatch.proofs.hand.Hand.get.Goals as goal

pub returns-clause-got : goal.returns-clause-got
returns-clause-got g c = rw (← c.self.view_is) (λ none is. (
  c.in-Some.errand,
  λ i. record {
    taken = c.in-Some.ensures.answer i;
    given = given c.self.inside.returns;
    worker = c.in-Ok.ensures.took i;
    fault = c.self.inside.fault;
    is_alone = c.self.inside.returns.has_heard_gone;
    stakes = record { errands = c.in-Some.ensures.stake i; returns = stake_of c.self.inside.returns.pass };
  },
))

pub invariant_of-self-2 : goal.invariant_of-self-2
invariant_of-self-2 g c = gets_tied (serving_of c.self.inside) c.in-Some.errand (taken c.get_as.new.self) c.take.new.self c.in-Some.ensures.answer c.in-Ok.ensures.took c.in-Ok.ensures.free.0 c.in-Ok.ensures.free.1 c.self.invariant
