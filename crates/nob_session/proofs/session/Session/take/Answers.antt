use Rattle.std.proofs.Common.{◌<◌, length, subst, sym}
use Rattle.nob_session.specs.Sound.{as_seen}
use Rattle.nob_session.specs.Stands.{Roomy, Stands}
use Rattle.nob_session.proofs.Taken.{taken_stands}
use Rattle.nob_session.proofs.session.Session.take.Goals as goal

pub returns-clause-answer : goal.returns-clause-answer
returns-clause-answer c = λ me peer limits L stands.
    rw (c.give_up.ensures.items)
    (taken_stands me peer limits L (as_seen c.self.inside).end
    (subst (λ (r : Roomy). 0 < length r.end.waiting) (sym c.self.view_is) c.requires)
    (subst (λ (r : Roomy). Stands me peer limits r.end L) (sym c.self.view_is) stands))
