use Rattle.std.proofs.Common.{rules, ◌≡◌, Option, Ok, subst, sym}
use Rattle.nob_dispatch.specs.declared.worker.Progress.{Progress}
use Rattle.nob_dispatch.specs.declared.worker.Progress.TheVariants as progresses
use Rattle.nob_dispatch.specs.Serving.{GivesAtMost, given}
use Rattle.nob_dispatch.specs.Steps.{object_in}
use Rattle.nob_dispatch.specs.Working.{Working, GivesBack}
use Rattle.nob_dispatch.proofs.hand.Hand.turn.Goals as goal

pub returns-in-Ok-Back-clause-given : goal.returns-in-Ok-Back-clause-given
returns-in-Ok-Back-clause-given g c =
    let is : c.in-Ok-Back.field-0 ≡ progresses.Back c.in-Ok-Back.back = search rules in
    let objects = subst (λ (progress : Progress _). GivesBack (Ok progress) c.self.inside.worker c.turn.new.self) is c.in-Ok-Back.ensures.objects in
    rw (← c.self.view_is) (subst (λ (object : Option _). GivesAtMost object (given c.self.inside.returns) (given c.send_back.new.returns)) (sym objects.0.3) c.send_back.ensures.given)

pub returns-else-is_memory-clause-given : goal.returns-else-is_memory-clause-given
returns-else-is_memory-clause-given g c =
    rw (← c.self.view_is) (subst (λ (worker : Working _). GivesAtMost (object_in worker.course) (given c.self.inside.returns) c.give_up-in-Err.new.self.given) c.in-Err.ensures.err c.give_up-in-Err.ensures.given)
