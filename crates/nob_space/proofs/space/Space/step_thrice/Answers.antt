use Rattle.std.proofs.Common.{Ok, sym, subst}
use Rattle.nob_model_types.specs.Deeds.{deeds}
use Rattle.nob_space.specs.Spaces.{Owner}
use Rattle.nob_space.specs.Events.{StepAnswers}
use Rattle.nob_space.proofs.space.Space.step_thrice.Goals as goal

pub again-second-requires : goal.again-second-requires
again-second-requires c =
    let told = subst (λ (space : Owner). StepAnswers space c.args.event.now (Ok c.in_ok-answer.answer)) (sym c.self.view_is) c.in_ok-answer.ensures.answer in
    c.in_ok-spare.ensures.fits c.in_ok-answer.answer (record {
      own = c.in_ok-answer.ensures.own;
      limits = c.self.inside.limits;
      D = deeds c.self.invariant.1;
      stands = c.self.invariant.2;
      is_right = told c.self.invariant.1 c.self.invariant.2;
    })

pub again-third-requires : goal.again-third-requires
again-third-requires c =
    let told = subst (λ (space : Owner). StepAnswers space c.args.event.now (Ok c.in_ok-answer.answer)) (sym c.self.view_is) c.in_ok-answer.ensures.answer in
    c.in_ok-other.ensures.fits c.in_ok-answer.answer (record {
      own = c.in_ok-answer.ensures.own;
      limits = c.self.inside.limits;
      D = deeds c.self.invariant.1;
      stands = c.self.invariant.2;
      is_right = told c.self.invariant.1 c.self.invariant.2;
    })
